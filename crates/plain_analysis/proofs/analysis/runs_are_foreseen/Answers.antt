use Rattle.c_tree.specs.View.{whole}
use Rattle.plain_analysis.proofs.Held.{analysis_foresees}
use Rattle.plain_analysis.proofs.Recursion.{loops_settle, finals_are_inductive}
use Rattle.plain_analysis.proofs.analysis.runs_are_foreseen.Goals as goal

pub returns-clause-runs : goal.returns-clause-runs
returns-clause-runs g c =
    let o = c.args.options.now in
    let sound = c.transfer_is_sound.ensures in
    analysis_foresees g.L.Leaf.meaning g.met.L.Leaf.laws o (sound.answers o.mode) (sound.holds o.mode) (whole c.args.program.now) (g.L.Leaf.value c.args.start.now)
    c.requires.program c.requires.plain c.leaf_is_valid.ensures.valid c.requires.variables

pub returns-clause-settled : goal.returns-clause-settled
returns-clause-settled g c =
    let o = c.args.options.now in
    loops_settle g.L.Leaf.meaning g.met.L.Leaf.laws o (c.transfer_is_sound.ensures.answers o.mode)

pub returns-clause-inductive : goal.returns-clause-inductive
returns-clause-inductive g c =
    let o = c.args.options.now in
    finals_are_inductive g.L.Leaf.meaning g.met.L.Leaf.laws o (c.transfer_is_sound.ensures.answers o.mode)
