use Rattle.std.proofs.Common.{length}
use Rattle.atom_solver.proofs.parts.+all_solved.Given as goal

abbrev pub decreases-all_solved : goal.decreases-all_solved
decreases-all_solved l = length l.parts.now
