use Rattle.atom_solver.proofs.truths.+follow_up.Given as goal

abbrev pub decreases-follow_up : goal.decreases-follow_up
decreases-follow_up l = l.steps
