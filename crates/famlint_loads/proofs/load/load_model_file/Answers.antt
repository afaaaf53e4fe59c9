use Rattle.std.proofs.Common.{◌≡◌, Err, sym, subst, rules}
use Rattle.fam_outer.proofs.Given.{given_so}
use Rattle.famlint_loads.specs.Loads.{Comes, IsModelFile}
use Rattle.famlint_loads.proofs.Loading.{model_refused}
use Rattle.famlint_loads.proofs.load.load_model_file.Goals as goal

pub returns-in_err-text-clause-given : goal.returns-in_err-text-clause-given
returns-in_err-text-clause-given g c =
    let unknown = c.args.unknown in
    let e : c.from_residual.result ≡ Err c.in_err-text.field-0.0 = search rules in
    given_so _ _ _ _ _ _ _ _ _ _ c.in_err-text.ensures.given (λ ok. absurd (search rules))
    (λ bytes came. subst (λ r. Comes (IsModelFile unknown bytes) r) (sym e) (model_refused unknown bytes c.in_err-text.field-0.0 came))

pub returns-clause-given : goal.returns-clause-given
returns-clause-given g c =
    let unknown = c.args.unknown in
    given_so _ _ _ _ _ _ _ _ _ _ c.in_ok-text.ensures.given (λ ok. search rules)
    (λ bytes came. subst (λ t. Comes (IsModelFile unknown t) c.model_of.result) came.0 c.model_of.ensures.model)
