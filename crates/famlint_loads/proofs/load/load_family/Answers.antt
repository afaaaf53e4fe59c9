use Rattle.std.proofs.Common.{◌≡◌, ℕ, List, Err, sym, subst, rules}
use Rattle.fam_outer.proofs.Given.{given_so}
use Rattle.fam_outer.specs.Limits.{file_bytes}
use Rattle.famlint_loads.specs.declared.fault.Fault.{Fault}
use Rattle.famlint_loads.specs.Loads.{Comes, IsFamilyFile, IsText}
use Rattle.famlint_loads.proofs.Loading.{family_refused}
use Rattle.famlint_loads.proofs.load.load_family.Goals as goal

pub returns-in_err-text-clause-given : goal.returns-in_err-text-clause-given
returns-in_err-text-clause-given g c =
    let dialect = c.args.dialect in
    let model = c.args.model.now in
    let e : c.from_residual.result ≡ Err c.in_err-text.field-0.0 = search rules in
    given_so _ _ _ _ _ _ _ _ _ _ c.in_err-text.ensures.given (λ ok. absurd (search rules))
    (λ bytes came. subst (λ r. Comes (IsFamilyFile dialect model bytes) r) (sym e) (family_refused dialect model bytes c.in_err-text.field-0.0
    (subst (λ (f : Fault). Comes {X = List ℕ} (IsText file_bytes f bytes) (Err c.in_err-text.field-0.0)) c.long_file.ensures came)))

pub returns-clause-given : goal.returns-clause-given
returns-clause-given g c =
    let dialect = c.args.dialect in
    let model = c.args.model.now in
    given_so _ _ _ _ _ _ _ _ _ _ c.in_ok-text.ensures.given (λ ok. search rules)
    (λ bytes came. subst (λ t. Comes (IsFamilyFile dialect model t) c.family_of.result) came.0 c.family_of.ensures.family)
