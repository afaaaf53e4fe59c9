use Rattle.octagon_matrix.specs.Matrices.{entry_of}
use Rattle.octagon_closure.specs.Sweeps.{bound_at}
use Rattle.octagon_closure.proofs.Octagons.{IsLowering}
use Rattle.octagon_closure.proofs.meet_sums.Given as goal

abbrev pub invariant-loop-a : goal.invariant-loop-a
invariant-loop-a l = IsLowering l.fn.matrix.variables (entry_of l.fn.matrix) (bound_at l.first) (bound_at l.second) l.matrix l.a 0

abbrev pub invariant-loop-b : goal.invariant-loop-b
invariant-loop-b l = IsLowering l.fn.matrix.variables (entry_of l.fn.matrix) (bound_at l.first) (bound_at l.second) l.matrix l.a l.b
