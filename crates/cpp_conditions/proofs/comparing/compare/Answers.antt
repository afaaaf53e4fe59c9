use Rattle.std.proofs.lemmas.Result.{err_from_is_err_and}
use Rattle.cpp_conditions.proofs.Compared.{compare_fails}
use Rattle.cpp_conditions.proofs.comparing.compare.Goals as goal

pub returns-in_err-form : goal.returns-in_err-form
returns-in_err-form c =
    let p = err_from_is_err_and c.from_residual.result c.from_residual.ensures.1 in
    rw (p.1, p.2) (compare_fails c.args.names.now c.args.op c.in_err-form.field-0.0 _ _ c.in_err-form.ensures)
