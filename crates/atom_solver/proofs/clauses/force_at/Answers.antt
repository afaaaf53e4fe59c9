use Rattle.std.proofs.Common.{refl, arith}
use Rattle.atom_solver.proofs.Claused.{denied_at}
use Rattle.atom_solver.proofs.clauses.force_at.Goals as goal

pub returns-then-has_truth-clause-out : goal.returns-then-has_truth-clause-out
returns-then-has_truth-clause-out c done = denied_at c.args.known.now c.args.clauses.now c.args.place c.index-clauses-place.result (omega arith) c.index-clauses-place.is (c.if-has_truth.ensures refl)
