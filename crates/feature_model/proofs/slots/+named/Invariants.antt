use Rattle.std.proofs.Common.{length}
use Rattle.feature_model.proofs.slots.+named.Given as goal

abbrev pub decreases-named : goal.decreases-named
decreases-named l = length l.features.now
