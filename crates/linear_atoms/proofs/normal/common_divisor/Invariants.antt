use Rattle.std.proofs.Common.{length}
use Rattle.linear_atoms.proofs.Divisors.{Dividing}
use Rattle.linear_atoms.proofs.normal.common_divisor.Given as goal

abbrev pub invariant-terms : goal.invariant-terms
invariant-terms l = Dividing l.divisor l.rest l.initial.rest

abbrev pub decreases-terms : goal.decreases-terms
decreases-terms l = length l.rest
