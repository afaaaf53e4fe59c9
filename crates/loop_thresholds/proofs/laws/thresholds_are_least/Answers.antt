use Rattle.loop_thresholds.proofs.ThresholdLaws.{thresholds_least}
use Rattle.loop_thresholds.proofs.laws.thresholds_are_least.Goals as goal

pub returns : goal.returns
returns c = thresholds_least
