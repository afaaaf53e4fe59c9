use Rattle.std.proofs.Common.{length}
use Rattle.feature_model.proofs.features.+has_name.Given as goal

abbrev pub decreases-has_name : goal.decreases-has_name
decreases-has_name l = length l.entries.now
