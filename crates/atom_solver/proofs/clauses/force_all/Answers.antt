use Rattle.atom_solver.proofs.clauses.force_all.Goals as goal

pub returns-then-force_at-clause-out : goal.returns-then-force_at-clause-out
returns-then-force_at-clause-out c done v k a = c.if-force_at.ensures.out done v (c.loop-place.invariant v k a) a
