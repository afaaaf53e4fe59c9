use Rattle.std.proofs.Common.{length}
use Rattle.cpp_conditions.proofs.formulas.+place.Given as goal

abbrev pub decreases-place : goal.decreases-place
decreases-place l = length l.atoms.now
