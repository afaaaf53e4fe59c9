use Rattle.std.proofs.Common.{length, ◌≡◌, ◌<◌, ℕ}
use Rattle.octagon_matrix.specs.Matrices.{entry_of}
use Rattle.octagon_closure.specs.Sweeps.{halves, bound_at}
use Rattle.octagon_closure.proofs.halves.Given as goal

abbrev pub invariant-loop-c : goal.invariant-loop-c
invariant-loop-c l = (length l.row ≡ 96) × ((k : ℕ) → k < l.c → bound_at l.row k ≡ halves (entry_of l.matrix) k)
