use Rattle.std.proofs.Common.{length}
use Rattle.leaf_domain.proofs.thresholds.+is_step.Given as goal

abbrev pub decreases-is_step : goal.decreases-is_step
decreases-is_step l = length l.numbers.now
