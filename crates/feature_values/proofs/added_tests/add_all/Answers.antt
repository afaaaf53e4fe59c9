use Rattle.feature_values.proofs.Adding.{added_more}
use Rattle.feature_values.proofs.added_tests.add_all.Goals as goal

pub loop-condition-preserved : goal.loop-condition-preserved
loop-condition-preserved c =
    added_more c.args.conditions.now c.loop-condition.condition-index c.condition-item.result _ _ _ c.loop-condition-test.true c.condition-item.is c.loop-condition.invariant c.add_atoms.ensures.grows c.in_ok-add_atoms.ensures.all
