use Rattle.std.proofs.Common.{length}
use Rattle.atom_solver.proofs.parting.+add_fixed.Given as goal

abbrev pub decreases-add_fixed : goal.decreases-add_fixed
decreases-add_fixed l = length l.spans.now
