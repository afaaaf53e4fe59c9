use Rattle.std.proofs.Common.{◌≡◌, Err, sym, subst, rules}
use Rattle.fam_outer.proofs.Given.{given_so}
use Rattle.famlint_loads.specs.Loads.{Comes, IsModel}
use Rattle.famlint_loads.proofs.Loading.{refused_alone}
use Rattle.famlint_loads.proofs.load.load_model.Goals as goal

pub returns-in_err-model-clause-given : goal.returns-in_err-model-clause-given
returns-in_err-model-clause-given g c =
    let unknown = c.args.unknown in
    let e : c.from_residual.result ≡ Err c.in_err-model.field-0.0 = search rules in
    given_so _ _ _ _ _ _ _ _ _ _ c.in_err-model.ensures.given (λ ok. absurd (search rules))
    (λ bytes came. subst (λ r. Comes (IsModel unknown bytes) r) (sym e) (refused_alone unknown bytes c.in_err-model.field-0.0 came))

pub returns-clause-given : goal.returns-clause-given
returns-clause-given g c = given_so _ _ _ _ _ _ _ _ _ _ c.in_ok-model.ensures.given (λ ok. search rules) (λ bytes came. came.0)
