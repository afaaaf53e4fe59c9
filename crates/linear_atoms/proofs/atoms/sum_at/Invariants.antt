use Rattle.std.proofs.Common.{length}
use Rattle.linear_atoms.specs.Forms.{sum_at}
use Rattle.linear_atoms.proofs.Readings.{Summing}
use Rattle.linear_atoms.proofs.atoms.sum_at.Given as goal

abbrev pub invariant-terms : goal.invariant-terms
invariant-terms l = Summing (λ ts. sum_at ts l.fn.values) (length l.fn.values) l.sum l.rest l.initial.rest

abbrev pub decreases-terms : goal.decreases-terms
decreases-terms l = length l.rest
