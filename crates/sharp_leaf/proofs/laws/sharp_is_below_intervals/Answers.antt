use Rattle.sharp_leaf.proofs.BelowIntervals.{sharp_below_intervals}
use Rattle.sharp_leaf.proofs.laws.sharp_is_below_intervals.Goals as goal

pub returns : goal.returns
returns c = sharp_below_intervals
