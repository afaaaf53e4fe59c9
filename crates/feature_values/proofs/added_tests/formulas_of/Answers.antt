use Rattle.feature_values.proofs.Adding.{among_more_left, formulas_more}
use Rattle.feature_values.proofs.added_tests.formulas_of.Goals as goal

pub loop-condition-preserved : goal.loop-condition-preserved
loop-condition-preserved c = record {
  among = among_more_left c.args.atoms.now c.args.conditions.now c.loop-condition.condition-index c.condition-item.result c.loop-condition-test.true c.condition-item.is c.loop-condition.invariant.among;
  numbered = formulas_more c.args.atoms.now c.args.conditions.now c.loop-condition.condition-index c.condition-item.result c.loop-condition.made.items c.push.new.self.items c.in_ok-number.field-0 c.loop-condition-test.true c.condition-item.is
      c.in_ok-push.ensures.items c.loop-condition.invariant.numbered c.in_ok-number.ensures.numbered;
}
