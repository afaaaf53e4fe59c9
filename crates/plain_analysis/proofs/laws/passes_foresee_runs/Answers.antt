use Rattle.c_tree.specs.View.{whole}
use Rattle.plain_analysis.proofs.Promised.{runs}
use Rattle.plain_analysis.proofs.laws.passes_foresee_runs.Goals as goal

pub returns : goal.returns
returns g c =
    let sound = c.transfer_is_sound.ensures in
    let p = whole c.args.program.now in
    let d = g.L.Leaf.value c.args.start.now in
    λ mode heads held. runs g.L.Leaf.meaning mode heads p d c.requires.program c.requires.plain g.met.L.Leaf.laws (sound.answers mode) (sound.holds mode) c.leaf_is_valid.ensures.valid c.requires.variables held
