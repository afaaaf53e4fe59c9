use Rattle.std.proofs.Common.{ap, sym, ◌∙◌}
use Rattle.std.proofs.lemmas.Result.{err_from_is_err_and}
use Rattle.cpp_conditions.specs.Descent.{expression}
use Rattle.cpp_conditions.specs.Expressions.{Unary, Binary}
use Rattle.cpp_conditions.specs.Propositions.{And, Or}
use Rattle.cpp_conditions.proofs.Joined.{inverse_made, both_joins, either_joins, left_fails, right_fails, both_made, either_made, compared_case}
use Rattle.cpp_conditions.proofs.truths.+condition.Goals as goal

pub returns-in_err-left-in-Both : goal.returns-in_err-left-in-Both
returns-in_err-left-in-Both t c =
    let p = err_from_is_err_and c.from_residual-in_err-left-in-Both.result c.from_residual-in_err-left-in-Both.ensures.1 in
    let is = ap expression c.in-Binary.is ∙ ap (λ x. Binary c.in-Binary.op (expression x) (expression c.in-Binary.right.value)) (sym c.deref-in-Both.ensures) in
    rw (p.1, p.2) (left_fails c.args.names.now (expression c.args.tree.now) (expression c.deref-in-Both.result.now) (expression c.in-Binary.right.value) And c.in_err-left-in-Both.field-0.0 (both_joins _ _ _ _ _ is c.in-Both.is) c.in_err-left-in-Both.ensures)

pub returns-in_err-right-in-Both : goal.returns-in_err-right-in-Both
returns-in_err-right-in-Both t c =
    let p = err_from_is_err_and c.from_residual-in_err-right-in-Both.result c.from_residual-in_err-right-in-Both.ensures.1 in
    let is = ap expression c.in-Binary.is ∙ ap (λ x. Binary c.in-Binary.op (expression c.in-Binary.left.value) (expression x)) (sym c.deref-in-Both-2.ensures) in
    rw (p.1, p.2) (right_fails c.args.names.now (expression c.args.tree.now) (expression c.in-Binary.left.value) (expression c.deref-in-Both-2.result.now) And c.in_err-right-in-Both.field-0.0 (both_joins _ _ _ _ _ is c.in-Both.is) c.in_err-right-in-Both.ensures)

pub returns-in_err-left-in-Either : goal.returns-in_err-left-in-Either
returns-in_err-left-in-Either t c =
    let p = err_from_is_err_and c.from_residual-in_err-left-in-Either.result c.from_residual-in_err-left-in-Either.ensures.1 in
    let is = ap expression c.in-Binary.is ∙ ap (λ x. Binary c.in-Binary.op (expression x) (expression c.in-Binary.right.value)) (sym c.deref-in-Either.ensures) in
    rw (p.1, p.2) (left_fails c.args.names.now (expression c.args.tree.now) (expression c.deref-in-Either.result.now) (expression c.in-Binary.right.value) Or c.in_err-left-in-Either.field-0.0 (either_joins _ _ _ _ _ is c.in-Either.is) c.in_err-left-in-Either.ensures)

pub returns-in_err-right-in-Either : goal.returns-in_err-right-in-Either
returns-in_err-right-in-Either t c =
    let p = err_from_is_err_and c.from_residual-in_err-right-in-Either.result c.from_residual-in_err-right-in-Either.ensures.1 in
    let is = ap expression c.in-Binary.is ∙ ap (λ x. Binary c.in-Binary.op (expression c.in-Binary.left.value) (expression x)) (sym c.deref-in-Either-2.ensures) in
    rw (p.1, p.2) (right_fails c.args.names.now (expression c.args.tree.now) (expression c.in-Binary.left.value) (expression c.deref-in-Either-2.result.now) Or c.in_err-right-in-Either.field-0.0 (either_joins _ _ _ _ _ is c.in-Either.is) c.in_err-right-in-Either.ensures)

pub returns-in_ok-negation-in-Inverse : goal.returns-in_ok-negation-in-Inverse
returns-in_ok-negation-in-Inverse t c =
    let is = ap expression c.in-Unary.is ∙ ap (λ x. Unary c.in-Unary.op (expression x)) (sym c.deref.ensures) in
    inverse_made c.args.names.now (expression c.args.tree.now) c.in-Unary.op (expression c.deref.result.now) c.in_ok-inner-in-Inverse.inner c.in_ok-negation-in-Inverse.field-0 is c.in-Inverse.is c.in_ok-inner-in-Inverse.ensures c.in_ok-negation-in-Inverse.ensures

pub returns-in_ok-both-in-Both : goal.returns-in_ok-both-in-Both
returns-in_ok-both-in-Both t c =
    let is = ap expression c.in-Binary.is ∙ ap (λ x. Binary c.in-Binary.op (expression x) (expression c.in-Binary.right.value)) (sym c.deref-in-Both.ensures) ∙ ap (λ x. Binary c.in-Binary.op (expression c.deref-in-Both.result.now) (expression x)) (sym c.deref-in-Both-2.ensures) in
    both_made c.args.names.now (expression c.args.tree.now) (expression c.deref-in-Both.result.now) (expression c.deref-in-Both-2.result.now) c.in_ok-left-in-Both.left c.in_ok-right-in-Both.right c.in_ok-both-in-Both.field-0 (both_joins _ _ _ _ _ is c.in-Both.is) c.in_ok-left-in-Both.ensures c.in_ok-right-in-Both.ensures c.in_ok-both-in-Both.ensures

pub returns-in_ok-either-in-Either : goal.returns-in_ok-either-in-Either
returns-in_ok-either-in-Either t c =
    let is = ap expression c.in-Binary.is ∙ ap (λ x. Binary c.in-Binary.op (expression x) (expression c.in-Binary.right.value)) (sym c.deref-in-Either.ensures) ∙ ap (λ x. Binary c.in-Binary.op (expression c.deref-in-Either.result.now) (expression x)) (sym c.deref-in-Either-2.ensures) in
    either_made c.args.names.now (expression c.args.tree.now) (expression c.deref-in-Either.result.now) (expression c.deref-in-Either-2.result.now) c.in_ok-left-in-Either.left c.in_ok-right-in-Either.right c.in_ok-either-in-Either.field-0 (either_joins _ _ _ _ _ is c.in-Either.is) c.in_ok-left-in-Either.ensures c.in_ok-right-in-Either.ensures c.in_ok-either-in-Either.ensures

pub returns-in_default-op-2 : goal.returns-in_default-op-2
returns-in_default-op-2 t c =
    let is = ap expression c.in-Binary.is ∙ ap (λ x. Binary c.in-Binary.op (expression x) (expression c.in-Binary.right.value)) (sym c.deref-in_default-op-2.ensures) ∙ ap (λ x. Binary c.in-Binary.op (expression c.deref-in_default-op-2.result.now) (expression x)) (sym c.deref-in_default-op-2-2.ensures) in
    compared_case c.args.names.now (expression c.args.tree.now) c.in-Binary.op (expression c.deref-in_default-op-2.result.now) (expression c.deref-in_default-op-2-2.result.now) c.of_comparison.result is
    c.in_default-op-2.not-Times c.in_default-op-2.not-Plus c.in_default-op-2.not-Minus c.in_default-op-2.not-Both c.in_default-op-2.not-Either c.of_comparison.ensures
