use Rattle.decision_tree.specs.View.{plain}
use Rattle.configuration_advice.proofs.CostTrees.{cost_as, cost_below, numbered_in}
use Rattle.configuration_advice.proofs.costs.cost_counted.Goals as goal

pub returns-clause-cost : goal.returns-clause-cost
returns-clause-cost g c =
    cost_as c.unify_in.result (plain c.in_ok-alarm.alarm) (plain c.in_ok-changes.changes) c.args.alarms.now c.args.kept.now _ (λ a b d h. h)
    c.in_ok-alarm.ensures.truth c.in_ok-changes.ensures.counts c.unify_in.ensures.unified

pub returns-clause-tests : goal.returns-clause-tests
returns-clause-tests g c =
    cost_below c.unify_in.result (plain c.in_ok-alarm.alarm) (plain c.in_ok-changes.changes) c.args.alarms.now c.args.kept.now
    c.in_ok-alarm.ensures.tests c.in_ok-changes.ensures.tests c.unify_in.ensures.tests

pub returns-clause-numbered : goal.returns-clause-numbered
returns-clause-numbered g c = numbered_in c.unify_in.result c.unify_in.new.forest c.unify_in.ensures.tree
