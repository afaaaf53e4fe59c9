use Rattle.atom_solver.proofs.truths.+follow_down.Given as goal

abbrev pub decreases-follow_down : goal.decreases-follow_down
decreases-follow_down l = l.place
