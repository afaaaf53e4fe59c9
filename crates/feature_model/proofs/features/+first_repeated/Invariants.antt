use Rattle.std.proofs.Common.{length, ◌-◌}
use Rattle.feature_model.proofs.features.+first_repeated.Given as goal

abbrev pub decreases-first_repeated : goal.decreases-first_repeated
decreases-first_repeated l = length l.entries.now - l.before
