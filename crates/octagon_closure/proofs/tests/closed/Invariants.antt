use Rattle.std.proofs.Common.{◌≡◌}
use Rattle.octagon_closure.proofs.tests.closed.Given as goal

abbrev pub invariant-loop-a : goal.invariant-loop-a
invariant-loop-a g l = l.matrix.variables ≡ 2
