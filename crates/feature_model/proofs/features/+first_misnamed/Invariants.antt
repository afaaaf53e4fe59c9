use Rattle.std.proofs.Common.{length}
use Rattle.feature_model.proofs.features.+first_misnamed.Given as goal

abbrev pub decreases-first_misnamed : goal.decreases-first_misnamed
decreases-first_misnamed l = length l.entries.now
