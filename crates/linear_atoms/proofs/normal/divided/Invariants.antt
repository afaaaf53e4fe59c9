use Rattle.std.proofs.Common.{length}
use Rattle.linear_atoms.specs.Normal.{divided}
use Rattle.linear_atoms.proofs.Normals.{Dividing}
use Rattle.linear_atoms.proofs.normal.divided.Given as goal

abbrev pub invariant-terms : goal.invariant-terms
invariant-terms l = Dividing l.fn.divisor l.list.items l.rest (divided l.fn.divisor l.initial.rest)

abbrev pub decreases-terms : goal.decreases-terms
decreases-terms l = length l.rest
