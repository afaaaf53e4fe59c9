use Rattle.congruence_leaf.proofs.two_strides.+solution.Given as goal

abbrev pub decreases-solution : goal.decreases-solution
decreases-solution l = l.a
