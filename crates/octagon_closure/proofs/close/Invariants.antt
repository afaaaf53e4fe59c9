use Rattle.std.proofs.Common.{◌*◌, nat_lt}
use Rattle.octagon_closure.proofs.Octagons.{IsPassed}
use Rattle.octagon_closure.proofs.close.Given as goal

abbrev pub invariant-loop-k : goal.invariant-loop-k
invariant-loop-k l = IsPassed l.fn.matrix l.matrix (λ b. nat_lt b (2 * l.k))
