use Rattle.atom_solver.proofs.branching.+is_refuted.Given as goal

abbrev pub decreases-is_refuted : goal.decreases-is_refuted
decreases-is_refuted l = l.turns
