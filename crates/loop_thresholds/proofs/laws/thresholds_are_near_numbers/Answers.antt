use Rattle.loop_thresholds.proofs.ThresholdLaws.{thresholds_near}
use Rattle.loop_thresholds.proofs.laws.thresholds_are_near_numbers.Goals as goal

pub returns : goal.returns
returns c = thresholds_near
