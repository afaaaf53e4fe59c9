use Rattle.std.proofs.Common.{ap, sym, ◌∙◌}
use Rattle.std.proofs.lemmas.Result.{err_from_is_err_and}
use Rattle.cpp_conditions.specs.Descent.{expression}
use Rattle.cpp_conditions.specs.Expressions.{Unary, Binary}
use Rattle.cpp_conditions.proofs.Formed.{prefix_case, prefix_case_fails, left_case_fails, right_case_fails, binary_case}
use Rattle.cpp_conditions.proofs.forming.+form.Goals as goal

pub returns-in_err-operand-in-Unary-clause-exact :
    goal.returns-in_err-operand-in-Unary-clause-exact
returns-in_err-operand-in-Unary-clause-exact t c =
    let p = err_from_is_err_and c.from_residual.result c.from_residual.ensures.1 in
    let is = ap expression c.in-Unary.is ∙ ap (λ x. Unary c.in-Unary.op (expression x)) (sym c.deref.ensures) in
    rw (p.1, p.2) (prefix_case_fails c.args.names.now (expression c.args.tree.now) c.in-Unary.op (expression c.deref.result.now) c.in_err-operand-in-Unary.field-0.0 is c.in_err-operand-in-Unary.ensures.exact)

pub returns-in_err-left-in-Binary-clause-exact : goal.returns-in_err-left-in-Binary-clause-exact
returns-in_err-left-in-Binary-clause-exact t c =
    let p = err_from_is_err_and c.from_residual-in_err-left-in-Binary.result c.from_residual-in_err-left-in-Binary.ensures.1 in
    let is = ap expression c.in-Binary.is ∙ ap (λ x. Binary c.in-Binary.op (expression x) (expression c.in-Binary.right.value)) (sym c.deref-in-Binary.ensures) in
    rw (p.1, p.2) (left_case_fails c.args.names.now (expression c.args.tree.now) c.in-Binary.op (expression c.deref-in-Binary.result.now) (expression c.in-Binary.right.value) c.in_err-left-in-Binary.field-0.0 is c.in_err-left-in-Binary.ensures.exact)

pub returns-in_err-right-in-Binary-clause-exact : goal.returns-in_err-right-in-Binary-clause-exact
returns-in_err-right-in-Binary-clause-exact t c =
    let p = err_from_is_err_and c.from_residual-in_err-right-in-Binary.result c.from_residual-in_err-right-in-Binary.ensures.1 in
    let is = ap expression c.in-Binary.is ∙ ap (λ x. Binary c.in-Binary.op (expression c.in-Binary.left.value) (expression x)) (sym c.deref-in-Binary-2.ensures) in
    rw (p.1, p.2) (right_case_fails c.args.names.now (expression c.args.tree.now) c.in-Binary.op (expression c.in-Binary.left.value) (expression c.deref-in-Binary-2.result.now) c.in_err-right-in-Binary.field-0.0 is c.in_err-right-in-Binary.ensures.exact)

pub returns-in_ok-operand-in-Unary-clause-exact : goal.returns-in_ok-operand-in-Unary-clause-exact
returns-in_ok-operand-in-Unary-clause-exact t c =
    let is = ap expression c.in-Unary.is ∙ ap (λ x. Unary c.in-Unary.op (expression x)) (sym c.deref.ensures) in
    prefix_case c.args.names.now (expression c.args.tree.now) c.in-Unary.op (expression c.deref.result.now) c.in_ok-operand-in-Unary.operand c.signed.result is c.in_ok-operand-in-Unary.ensures.exact c.signed.ensures

pub returns-in_ok-right-in-Binary-clause-exact : goal.returns-in_ok-right-in-Binary-clause-exact
returns-in_ok-right-in-Binary-clause-exact t c =
    let is = ap expression c.in-Binary.is ∙ ap (λ x. Binary c.in-Binary.op (expression x) (expression c.in-Binary.right.value)) (sym c.deref-in-Binary.ensures) ∙ ap (λ x. Binary c.in-Binary.op (expression c.deref-in-Binary.result.now) (expression x)) (sym c.deref-in-Binary-2.ensures) in
    binary_case c.args.names.now (expression c.args.tree.now) c.in-Binary.op (expression c.deref-in-Binary.result.now) (expression c.deref-in-Binary-2.result.now) c.in_ok-left-in-Binary.left c.in_ok-right-in-Binary.right c.combined.result is c.in_ok-left-in-Binary.ensures.exact c.in_ok-right-in-Binary.ensures.exact c.combined.ensures
