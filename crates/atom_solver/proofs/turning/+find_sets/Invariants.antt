use Rattle.std.proofs.Common.{length}
use Rattle.atom_solver.proofs.turning.+find_sets.Given as goal

abbrev pub decreases-find_sets : goal.decreases-find_sets
decreases-find_sets l = length l.constraints.now
