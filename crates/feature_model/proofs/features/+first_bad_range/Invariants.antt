use Rattle.std.proofs.Common.{length}
use Rattle.feature_model.proofs.features.+first_bad_range.Given as goal

abbrev pub decreases-first_bad_range : goal.decreases-first_bad_range
decreases-first_bad_range l = length l.entries.now
