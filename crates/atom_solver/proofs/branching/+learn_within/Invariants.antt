use Rattle.std.proofs.Common.{length, ◌-◌}
use Rattle.atom_solver.proofs.branching.+learn_within.Given as goal

abbrev pub decreases-learn_within : goal.decreases-learn_within
decreases-learn_within l = length l.atoms.now - l.place
