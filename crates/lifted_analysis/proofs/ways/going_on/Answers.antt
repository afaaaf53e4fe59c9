use Rattle.std.proofs.Common.{refl}
use Rattle.decision_tree.specs.View.{numbered}
use Rattle.decision_tree.proofs.Numbers.{keeps_same}
use Rattle.plain_analysis.specs.Ways.{going_on}
use Rattle.lifted_analysis.specs.States.{ways_at}
use Rattle.lifted_analysis.proofs.WaysLemmas.{if_joint_is}
use Rattle.lifted_analysis.proofs.ways.going_on.Goals as goal

pub returns : goal.returns
returns g c =
    let value = g.L.Leaf.value in
    let M = g.L.Leaf.meaning in
    let a = c.args.tables.now.leaves in
    let w = c.args.body.now in
    if_joint_is value c.args.family.now M g.met.L.Leaf.laws c.joined.result a a c.joined.new.tables.leaves (λ v. going_on M (ways_at value w v)) (numbered w.behind) (numbered w.continued) (keeps_same a a refl)
    c.requires.behind c.requires.continued (λ v. refl) c.joined.ensures
