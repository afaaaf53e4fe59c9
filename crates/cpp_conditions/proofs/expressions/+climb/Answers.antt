use Rattle.std.proofs.Common.{arith}
use Rattle.std.proofs.lemmas.Result.{err_from_is_err_and}
use Rattle.cpp_conditions.specs.Descent.{expression, plain}
use Rattle.cpp_conditions.proofs.Descending.{prefixed, prefix_falls, grouped, unclosed, inside_falls, one_more, right_falls}
use Rattle.cpp_conditions.proofs.expressions.+climb.Goals as goal

pub climb-returns-in_err-right-clause-read : goal.climb-returns-in_err-right-clause-read
climb-returns-in_err-right-clause-read t c =
    let p = err_from_is_err_and c.from_residual-in_err-right.result c.from_residual-in_err-right.ensures.1 in
    rw (p.1, p.2) (right_falls c.args.level _ c.in-Some.op (plain c.args.tokens.now) (plain c.more.rest.now) (plain c.in-Some.behind.now) (expression c.more.left) c.in_err-right.field-0.0 c.more.invariant.read c.in-Some.ensures.value.0 c.in-Some.ensures.value.1 (omega arith) c.in_err-right.ensures.read)

pub climb-more-preserved : goal.climb-more-preserved
climb-more-preserved t c = record {
  read = one_more c.args.level _ c.in-Some.op (plain c.args.tokens.now) (plain c.more.rest.now) (plain c.in-Some.behind.now) (plain c.in_ok-right.next.now) (expression c.more.left) (expression c.in_ok-right.right) (expression c.in_ok-left-2.left) c.more.invariant.read c.in-Some.ensures.value.0 c.in-Some.ensures.value.1 (omega arith) c.in_ok-right.ensures.read c.in_ok-right.ensures.ends c.in_ok-left-2.ensures;
  shorter = omega (arith, c.in-Some.ensures.shorter, c.in_ok-right.ensures.shorter, c.more.invariant.shorter);
}

pub operand-returns-in_err-inner-clause-read : goal.operand-returns-in_err-inner-clause-read
operand-returns-in_err-inner-clause-read t c =
    let p = err_from_is_err_and c.from_residual.result c.from_residual.ensures.1 in
    rw (p.1, p.2) (prefix_falls c.in-Some.op c.in_err-inner.field-0.0 (plain c.args.tokens.now) (plain c.in-Some.behind.now) c.in-Some.ensures.value c.in_err-inner.ensures.read)

pub operand-returns-in-Some-clause-read : goal.operand-returns-in-Some-clause-read
operand-returns-in-Some-clause-read t c =
    prefixed c.in-Some.op (plain c.args.tokens.now) (plain c.in-Some.behind.now) (plain c.in_ok-inner.after.now) (expression c.in_ok-inner.inner) (expression c.in_ok-made.made) c.in-Some.ensures.value c.in_ok-inner.ensures.read c.in_ok-made.ensures

pub operand-returns-in_err-inner-2-clause-read : goal.operand-returns-in_err-inner-2-clause-read
operand-returns-in_err-inner-2-clause-read t c =
    let p = err_from_is_err_and c.from_residual-in_err-inner-2.result c.from_residual-in_err-inner-2.ensures.1 in
    rw (p.1, p.2) (inside_falls c.in_err-inner-2.field-0.0 (plain c.args.tokens.now) (plain c.in-Some-open.inside.now) c.in-Some-open.ensures.value c.in_err-inner-2.ensures.read)

pub operand-returns-in_default-close-clause-read : goal.operand-returns-in_default-close-clause-read
operand-returns-in_default-close-clause-read t c =
    unclosed (plain c.args.tokens.now) (plain c.in-Some-open.inside.now) (plain c.in_ok-inner-2.rest.now) (expression c.in_ok-inner-2.inner) c.in-Some-open.ensures.value c.in_ok-inner-2.ensures.read c.in_ok-inner-2.ensures.ends c.in_default-close.ensures.value

pub operand-returns-in-Some-open-clause-read : goal.operand-returns-in-Some-open-clause-read
operand-returns-in-Some-open-clause-read t c =
    grouped (plain c.args.tokens.now) (plain c.in-Some-open.inside.now) (plain c.in_ok-inner-2.rest.now) (plain c.in-Some-close.after.now) (expression c.in_ok-inner-2.inner) c.in-Some-open.ensures.value c.in_ok-inner-2.ensures.read c.in-Some-close.ensures.value
