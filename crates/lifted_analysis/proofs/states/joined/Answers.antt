use Rattle.decision_tree.specs.View.{numbered}
use Rattle.lifted_analysis.proofs.StateLemmas.{joint_first, joint_second}
use Rattle.lifted_analysis.proofs.states.joined.Goals as goal

pub returns-then-is_nothing_everywhere : goal.returns-then-is_nothing_everywhere
returns-then-is_nothing_everywhere g c =
    joint_first g.L.Leaf.value c.args.family.now g.L.Leaf.meaning g.met.L.Leaf.laws c.share.result c.args.tables.now.leaves (numbered c.args.t.now) (numbered c.args.u.now) c.requires.t c.requires.u
    (c.is_nothing_everywhere.ensures c.if-is_nothing_everywhere.true) c.share.ensures

pub returns-then-is_nothing_everywhere-2 : goal.returns-then-is_nothing_everywhere-2
returns-then-is_nothing_everywhere-2 g c =
    joint_second g.L.Leaf.value c.args.family.now g.L.Leaf.meaning g.met.L.Leaf.laws c.share-then-is_nothing_everywhere-2.result c.args.tables.now.leaves (numbered c.args.t.now) (numbered c.args.u.now) c.requires.t c.requires.u
    (c.is_nothing_everywhere-2.ensures c.if-is_nothing_everywhere-2.true) c.share-then-is_nothing_everywhere-2.ensures
