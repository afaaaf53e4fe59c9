use Rattle.std.proofs.Common.{ap, arith, ◌∙◌}
use Rattle.std.proofs.lemmas.List.{take_all}
use Rattle.decision_tree.specs.Listed.{IsNumberedTree}
use Rattle.decision_tree.specs.Numbered.{erase}
use Rattle.decision_tree.specs.Plain.{TestsBelow}
use Rattle.famlint_families.proofs.Advising.{numbered_trees, all_alike, plain_alike}
use Rattle.famlint_families.proofs.advice.trees_of.Goals as goal

pub returns-clause-trees : goal.returns-clause-trees
returns-clause-trees c = plain_alike c.loop-alarm.trees.items c.args.alarms.now
    (c.loop-alarm.invariant ∙ ap numbered_trees (take_all c.loop-alarm.alarm-index c.args.alarms.now (omega (arith, c.loop-alarm-test.false))))

pub returns-clause-tests : goal.returns-clause-tests
returns-clause-tests c = λ count below. all_alike (λ t. TestsBelow count (erase t)) c.loop-alarm.trees.items c.args.alarms.now
    (c.loop-alarm.invariant ∙ ap numbered_trees (take_all c.loop-alarm.alarm-index c.args.alarms.now (omega (arith, c.loop-alarm-test.false))))
    below

pub returns-clause-numbered : goal.returns-clause-numbered
returns-clause-numbered c = λ all. all_alike (IsNumberedTree 0 320) c.loop-alarm.trees.items c.args.alarms.now
    (c.loop-alarm.invariant ∙ ap numbered_trees (take_all c.loop-alarm.alarm-index c.args.alarms.now (omega (arith, c.loop-alarm-test.false))))
    all
