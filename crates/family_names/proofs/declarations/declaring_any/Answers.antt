use Rattle.std.proofs.Common.{ℕ}
use Rattle.std.specs.List.{All}
use Rattle.std.proofs.lemmas.Result.{IfOk-weaker}
use Rattle.cpp_conditions.specs.declared.formulas.Formula.{Formula}
use Rattle.cpp_conditions.specs.Propositions.{IsBelow}
use Rattle.cpp_conditions.specs.View.{formula}
use Rattle.family_names.proofs.declarations.declaring_any.Goals as goal

pub returns-clause-below : goal.returns-clause-below
returns-clause-below c =
    IfOk-weaker c.one_of.result (λ made. (count : ℕ) → IsBelow count (formula c.in_ok-left.left) → IsBelow count (formula c.in_ok-right.right) → IsBelow count (formula made))
    (λ made. (count : ℕ) → All (λ (f : Formula). IsBelow count (formula f)) c.args.conditions.now → IsBelow count (formula made))
    (λ made b count h. b count (c.in_ok-left.ensures.below count h) (c.in_ok-right.ensures.below count h)) c.one_of.ensures.below
