use Rattle.std.proofs.Common.{length}
use Rattle.atom_solver.proofs.parting.+part_of.Given as goal

abbrev pub decreases-part_of : goal.decreases-part_of
decreases-part_of l = length l.conditions.now
