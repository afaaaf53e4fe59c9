use Rattle.std.proofs.Common.{length}
use Rattle.atom_solver.proofs.undecided.+unmark_decided.Given as goal

abbrev pub decreases-unmark_decided : goal.decreases-unmark_decided
decreases-unmark_decided l = length l.constraints.now
