use Rattle.std.proofs.Common.{◌≡◌, [], ◌∷◌, Err, Some, ap, sym, subst, rules}
use Rattle.fam_outer.proofs.Given.{given_so}
use Rattle.cpp_conditions.specs.declared.models.Model.{Model}
use Rattle.famlint_loads.specs.declared.fault.Done.{Done}
use Rattle.famlint_loads.specs.declared.fault.Failure.TheVariants as failure
use Rattle.famlint_loads.specs.Loads.{IsOneOf, IsRight}
use Rattle.famlint_loads.proofs.Loading.{fault_of_any}
use Rattle.famlint_loads.proofs.Right.{given_named, only_path, refused_as, right_done, right_no_memory, right_refused}
use Rattle.famlint_loads.specs.Loads.{IsModel, model_source}
use Rattle.famlint_families.specs.FamilyAnswers.{AnswersFeatures, PromisedFeatures}
use Rattle.famlint_families.proofs.features.features.Goals as goal

pub returns-in_err-model-clause-given : goal.returns-in_err-model-clause-given
returns-in_err-model-clause-given g c =
    let unknown = c.args.unknown in
    let path = c.args.model.now in
    let s = c.in_err-model.field-0.0 in
    let e : c.from_residual.result ≡ Err s = search rules in
    let failed = g.F.Files.failed c.load_model.new.files in
    given_so _ _ _ _ _ _ _ _ _ _ (given_named _ _ _ _ _ _ _ _ _ (ap (λ p. model_source p ∷ []) c.as_str.ensures) c.in_err-model.ensures.given) (λ ok. absurd (search rules))
    (λ bytes came. subst (λ r. IsRight (AnswersFeatures unknown bytes) PromisedFeatures (λ f. f ≡ Some path) failed r) (sym e)
    (right_refused _ _ _ failed s (refused_as (IsModel unknown bytes) (AnswersFeatures unknown bytes) s (λ fault h. h) came)
    (λ h. only_path failed path (subst (λ p. IsOneOf failed (p ∷ [])) c.as_str.ensures (c.in_err-model.ensures.read.path (fault_of_any Done Model s h))))))

pub returns-in_err-uses_done-clause-given : goal.returns-in_err-uses_done-clause-given
returns-in_err-uses_done-clause-given g c =
    let unknown = c.args.unknown in
    let path = c.args.model.now in
    let e : c.from_residual-in_err-uses_done.result ≡ Err failure.NoMemory = search rules in
    let failed = g.F.Files.failed c.load_model.new.files in
    given_so _ _ _ _ _ _ _ _ _ _ (given_named _ _ _ _ _ _ _ _ _ (ap (λ p. model_source p ∷ []) c.as_str.ensures) c.in_ok-model.ensures.given) (λ ok. absurd (search rules))
    (λ bytes came. subst (λ r. IsRight (AnswersFeatures unknown bytes) PromisedFeatures (λ f. f ≡ Some path) failed r) (sym e) (right_no_memory _ _ _ failed))

pub returns-clause-given : goal.returns-clause-given
returns-clause-given g c =
    given_so _ _ _ _ _ _ _ _ _ _ (given_named _ _ _ _ _ _ _ _ _ (ap (λ p. model_source p ∷ []) c.as_str.ensures) c.in_ok-model.ensures.given) (λ ok. search rules)
    (λ bytes came. right_done _ _ _ _ c.in_ok-uses_done.field-0 (c.in_ok-model.model, came, c.in_ok-uses_done.ensures) c.in_ok-uses_done.ensures.status)
