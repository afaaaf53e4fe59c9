use Rattle.std.proofs.Common.{length}
use Rattle.feature_values.proofs.feature_uses.+found.Given as goal

abbrev pub decreases-found : goal.decreases-found
decreases-found l = length l.features.now
