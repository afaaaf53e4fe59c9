use Rattle.std.proofs.Common.{length}
use Rattle.cpp_conditions.proofs.models.+is_within.Given as goal

abbrev pub decreases-is_within : goal.decreases-is_within
decreases-is_within l = length l.features.now
