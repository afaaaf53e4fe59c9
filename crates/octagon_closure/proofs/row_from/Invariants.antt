use Rattle.std.proofs.Common.{length, ◌≡◌, ◌<◌, ℕ}
use Rattle.octagon_matrix.specs.Matrices.{entry_of}
use Rattle.octagon_closure.specs.Sweeps.{row_from, bound_at}
use Rattle.octagon_closure.proofs.row_from.Given as goal

abbrev pub invariant-loop-c : goal.invariant-loop-c
invariant-loop-c l = (length l.row ≡ 96) × ((k : ℕ) → k < l.c → bound_at l.row k ≡ row_from (entry_of l.matrix) l.p l.near l.q l.far k)
