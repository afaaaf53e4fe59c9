use Rattle.std.proofs.Common.{◌<◌, length}
use Rattle.std.specs.Prelude.{IfSome}
use Rattle.tree_questions.proofs.choosing.first_marked.Given as goal

abbrev pub invariant-loop-test : goal.invariant-loop-test
invariant-loop-test l = IfSome l.first (λ test. (test < 320) × (test < length l.atoms))
