use Rattle.std.proofs.lemmas.Result.{err_from_is_err_and}
use Rattle.cpp_conditions.proofs.Compared.{difference_made, difference_back, wide_difference}
use Rattle.cpp_conditions.proofs.comparing.difference.Goals as goal

pub returns-in_err-back : goal.returns-in_err-back
returns-in_err-back c =
    let p = err_from_is_err_and c.from_residual.result c.from_residual.ensures.1 in
    rw (p.1, p.2) (difference_back c.args.names.now c.in_err-back.field-0.0 c.args.right _ c.requires.right c.in_err-back.ensures.exact)

pub returns : goal.returns
returns c =
    difference_made c.args.names.now c.args.left c.args.right c.in_ok-back.back c.in_ok-made.made _ c.requires.left c.requires.right c.in_ok-back.ensures.exact.0 c.in_ok-made.ensures.exact.0 c.in_ok-made.ensures.exact.1
    (wide_difference c.args.left c.args.right c.requires.left.small c.requires.right.small)
