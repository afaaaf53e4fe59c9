use Rattle.std.proofs.Common.{List, Bool}
use Rattle.atom_solver.specs.Clauses.{AreTrue}
use Rattle.atom_solver.specs.Truths.{Knows}
use Rattle.atom_solver.proofs.clauses.force_all.Given as goal

abbrev pub invariant-loop-place : goal.invariant-loop-place
invariant-loop-place l = (v : List Bool) → Knows l.fn.known v → AreTrue v l.fn.clauses → Knows l.known v
