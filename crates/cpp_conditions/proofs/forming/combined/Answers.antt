use Rattle.std.proofs.lemmas.Result.{err_from_is_err_and}
use Rattle.cpp_conditions.proofs.Formed.{formed_plus, formed_difference, formed_back}
use Rattle.cpp_conditions.proofs.forming.combined.Goals as goal

pub returns-in_err-right-in_default : goal.returns-in_err-right-in_default
returns-in_err-right-in_default c =
    let p = err_from_is_err_and c.from_residual.result c.from_residual.ensures.1 in
    rw (p.1, p.2) (formed_back c.args.names.now c.in_err-right-in_default.field-0.0 c.args.right _ _ c.requires.right c.in_err-right-in_default.ensures.exact)

pub returns-in-Plus : goal.returns-in-Plus
returns-in-Plus c = formed_plus c.args.names.now c.args.op c.args.left c.args.right c.add.result c.requires.left c.requires.right c.in-Plus.is c.add.ensures.exact

pub returns-in_ok-right-in_default : goal.returns-in_ok-right-in_default
returns-in_ok-right-in_default c =
    formed_difference c.args.names.now c.args.op c.args.left c.args.right c.in_ok-right-in_default.right c.add-in_default.result c.requires.left c.requires.right c.in_default.not-Times c.in_default.not-Plus c.in_ok-right-in_default.ensures.exact.0 c.add-in_default.ensures.exact
