use Rattle.std.proofs.Common.{◌+◌, drop, map, subst, sym, arith}
use Rattle.decision_tree.specs.Plain.{TestsBelow}
use Rattle.decision_tree.specs.View.{plain}
use Rattle.alarm_report.specs.Invariants.{leaf_tree}
use Rattle.certificate_format.proofs.Chosen.{one_chosen, all_chosen}
use Rattle.certificate_format.proofs.loops.loop_trees.Goals as goal

pub places-preserved : goal.places-preserved
places-preserved g c =
    let f = leaf_tree g.L.Leaf.value in
    let i = c.places.tree-index in (
      one_chosen f c.places.made.items c.take_tree.new.made.items c.args.places.now c.places.left.now c.in_ok-left.left.now c.args.loops.now i c.tree-item.result c.places-test.true c.tree-item.is
          (c.in_ok-left.ensures.trees (map f (drop (i + 1) c.args.places.now))) c.places.invariant.0,
      λ count all. c.in_ok-left.ensures.tests count
          (subst (λ p. TestsBelow count (plain p.tree)) (sym c.tree-item.is) (all i c.tree-item.result c.places-test.true))
          (c.places.invariant.1 count all),
    )

pub returns-clause-trees : goal.returns-clause-trees
returns-clause-trees g c =
    all_chosen (leaf_tree g.L.Leaf.value) c.places.made.items c.args.places.now c.places.left.now c.args.loops.now c.places.tree-index (omega (arith, c.places-test.false)) c.places.invariant.0

pub returns-clause-tests : goal.returns-clause-tests
returns-clause-tests g c = λ count all. c.places.invariant.1 count all
