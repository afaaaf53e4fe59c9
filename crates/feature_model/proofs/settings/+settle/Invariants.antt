use Rattle.std.proofs.Common.{length}
use Rattle.feature_model.proofs.settings.+settle.Given as goal

abbrev pub decreases-settle : goal.decreases-settle
decreases-settle l = length l.features.now
