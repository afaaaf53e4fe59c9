use Rattle.decision_tree.specs.View.{numbered}
use Rattle.decision_tree.proofs.Numbers.{numbered_tree}
use Rattle.lifted_analysis.proofs.Answered.{leaf_kept}
use Rattle.lifted_analysis.proofs.conditions.family_trees.Goals as goal

pub returns : goal.returns
returns g c = record {
  choices = c.in_ok-choices.ensures;
  plausible = c.in_ok-plausible.ensures.means;
  tree = numbered_tree 0 320 c.test_tree_in.new.forest (numbered c.in_ok-plausible.plausible) c.in_ok-plausible.ensures.tree;
  never = leaf_kept (numbered c.in_ok-never.never) _ c.in_ok-never.ensures.same;
}
