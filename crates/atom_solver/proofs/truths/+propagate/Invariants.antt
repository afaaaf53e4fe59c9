use Rattle.atom_solver.proofs.truths.+propagate.Given as goal

abbrev pub decreases-propagate : goal.decreases-propagate
decreases-propagate l = l.rounds
