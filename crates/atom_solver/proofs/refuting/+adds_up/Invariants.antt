use Rattle.std.proofs.Common.{length}
use Rattle.atom_solver.proofs.refuting.+adds_up.Given as goal

abbrev pub decreases-adds_up : goal.decreases-adds_up
decreases-adds_up l = length l.places.now
