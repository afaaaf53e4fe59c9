use Rattle.std.proofs.Common.{length}
use Rattle.cpp_conditions.proofs.names.+numbered.Given as goal

abbrev pub decreases-numbered : goal.decreases-numbered
decreases-numbered l = length l.features.now
