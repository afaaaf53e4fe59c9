use Rattle.std.proofs.Common.{take, sym, subst, arith}
use Rattle.std.proofs.lemmas.List.{take_all}
use Rattle.cpp_conditions.specs.Propositions.{IsBelow}
use Rattle.cpp_conditions.specs.View.{formula}
use Rattle.decision_tree.specs.View.{numbered}
use Rattle.decision_tree.proofs.Numbers.{numbered_tree}
use Rattle.lifted_analysis.specs.Conditions.{AreTreesOf}
use Rattle.lifted_analysis.proofs.ConditionLemmas.{trees_more}
use Rattle.lifted_analysis.proofs.conditions.condition_trees.Goals as goal

pub loop-condition-init : goal.loop-condition-init
loop-condition-init g c = subst (AreTreesOf (take 0 c.args.conditions.now)) (sym c.new-trees.ensures.items) tt

pub test_tree_in-requires : goal.test_tree_in-requires
test_tree_in-requires g c =
    subst (λ f. IsBelow 320 (formula f)) (sym c.condition-item.is) (c.requires c.loop-condition.condition-index c.condition-item.result c.loop-condition-test.true)

pub loop-condition-preserved : goal.loop-condition-preserved
loop-condition-preserved g c =
    let tree = c.in_ok-tree.tree in
    trees_more c.args.conditions.now c.loop-condition.condition-index c.condition-item.result c.loop-condition.trees.items c.push.new.self.items tree c.loop-condition-test.true c.condition-item.is c.in_ok-push.ensures.items
    c.loop-condition.invariant c.in_ok-tree.ensures.means (numbered_tree 0 320 c.test_tree_in.new.forest (numbered tree) c.in_ok-tree.ensures.tree)

pub returns : goal.returns
returns g c =
    subst (λ l. AreTreesOf l c.loop-condition.trees.items) (take_all c.loop-condition.condition-index c.args.conditions.now (omega (arith, c.loop-condition-test.false))) c.loop-condition.invariant
