use Rattle.atom_solver.proofs.clauses.+propagate_from.Given as goal

abbrev pub decreases-propagate_from : goal.decreases-propagate_from
decreases-propagate_from l = l.rounds
