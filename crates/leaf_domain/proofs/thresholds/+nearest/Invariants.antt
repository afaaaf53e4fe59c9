use Rattle.std.proofs.Common.{length}
use Rattle.leaf_domain.proofs.thresholds.+nearest.Given as goal

abbrev pub decreases-nearest : goal.decreases-nearest
decreases-nearest l = length l.numbers.now
