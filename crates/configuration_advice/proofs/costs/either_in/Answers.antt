use Rattle.decision_tree.specs.View.{plain}
use Rattle.configuration_advice.proofs.CostTrees.{below_either, numbered_in}
use Rattle.configuration_advice.proofs.costs.either_in.Goals as goal

pub returns-else-is_never-2-clause-tests : goal.returns-else-is_never-2-clause-tests
returns-else-is_never-2-clause-tests g c = below_either c.unify_in.result (plain c.args.left) (plain c.args.right) c.unify_in.ensures.tests

pub returns-else-is_never-2-clause-numbered : goal.returns-else-is_never-2-clause-numbered
returns-else-is_never-2-clause-numbered g c = numbered_in c.unify_in.result c.unify_in.new.forest c.unify_in.ensures.tree
