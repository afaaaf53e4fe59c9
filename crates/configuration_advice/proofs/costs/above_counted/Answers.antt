use Rattle.decision_tree.specs.View.{plain}
use Rattle.configuration_advice.proofs.CostTrees.{below_of, numbered_in}
use Rattle.configuration_advice.proofs.costs.above_counted.Goals as goal

pub returns-clause-tests : goal.returns-clause-tests
returns-clause-tests g c = below_of c.map_in.result (plain c.args.cost.now) c.map_in.ensures.tests

pub returns-clause-numbered : goal.returns-clause-numbered
returns-clause-numbered g c = numbered_in c.map_in.result c.map_in.new.forest c.map_in.ensures.tree
