use Rattle.std.proofs.Common.{◌≡◌, [], ◌∷◌, Err, ap, inl, refl, sym, subst, rules}
use Rattle.std.specs.Prelude.{IsOk}
use Rattle.fam_outer.proofs.Given.{given_front, given_of, given_so, given_then}
use Rattle.famlint_checks.specs.Checked.{AnswersCheck, PromisedCheck}
use Rattle.famlint_loads.specs.Contents.{Contents}
use Rattle.famlint_loads.specs.CertificateLoads.{IsLoadedForCheck}
use Rattle.famlint_loads.specs.declared.fault.Done.{Done}
use Rattle.famlint_loads.specs.declared.fault.Failure.TheVariants as failure
use Rattle.famlint_loads.specs.declared.product_line.ProductLine.{ProductLine}
use Rattle.famlint_loads.specs.Loads.{IsOneOf, IsRight, certificate_source}
use Rattle.famlint_loads.proofs.Loading.{fault_of_any}
use Rattle.famlint_loads.proofs.Right.{given_named, line_named, right_done, right_no_memory, right_refused}
use Rattle.famlint_checks.proofs.Refusing.{check_no_line, check_no_certificate, loaded_third}
use Rattle.famlint_checks.proofs.check.check.Goals as goal

pub returns-in_err-line-clause-given : goal.returns-in_err-line-clause-given
returns-in_err-line-clause-given g c =
    let dialect = c.args.dialect in
    let s = c.in_err-line.field-0.0 in
    let e : c.from_residual.result ≡ Err s = search rules in
    let failed = g.F.Files.failed c.load_product_line.new.files in
    given_front _ _ _ _ _ (certificate_source c.args.certificate.now ∷ []) _ (λ (told : Contents). told.certificate ∷ []) _ _ _ _
    (line_named _ _ _ _ _ _ _ _ _ _ _ _ _ c.as_str.ensures c.as_str-2.ensures c.in_err-line.ensures.given) (λ told. refl) (λ ok. absurd (search rules))
    (λ told came. subst (λ r. IsRight (AnswersCheck dialect told) (PromisedCheck dialect told)
    (IsLoadedForCheck dialect c.args.model.now c.args.file.now c.args.certificate.now told.model told.file) failed r) (sym e)
    (right_refused _ _ _ failed s (check_no_line dialect told s came.comes) (λ h. inl (came.order (fault_of_any Done ProductLine s h)))))

pub returns-in_err-certificate-clause-given : goal.returns-in_err-certificate-clause-given
returns-in_err-certificate-clause-given g c =
    let dialect = c.args.dialect in
    let s = c.in_err-certificate.field-0.0 in
    let e : c.from_residual-in_err-certificate.result ≡ Err s = search rules in
    let failed = g.F.Files.failed c.load_certificate.new.files in
    given_then _ _ _ _ _ _ _ _ _ _ _ _ _ _ _
    (line_named _ _ _ _ _ _ _ _ _ _ _ _ _ c.as_str.ensures c.as_str-2.ensures c.in_ok-line.ensures.given) refl (λ told. refl) c.load_product_line.ensures.kept
    (given_so _ _ _ _ _ _ _ (IsOk c.from_residual-in_err-certificate.result) _ _
    (given_named _ _ _ _ _ _ _ _ _ (ap (λ p. certificate_source p ∷ []) c.as_str-3.ensures)
    (given_of _ _ _ _ _ _ _ _ (λ (told : Contents). told.certificate) c.in_err-certificate.ensures.given)) (λ ok. absurd (search rules)) (λ told came. came))
    (λ told came then. subst (λ r. IsRight (AnswersCheck dialect told) (PromisedCheck dialect told)
    (IsLoadedForCheck dialect c.args.model.now c.args.file.now c.args.certificate.now told.model told.file) failed r) (sym e)
    (right_refused _ _ _ failed s (check_no_certificate dialect told c.in_ok-line.line s came.comes then)
    (loaded_third dialect failed c.args.model.now c.args.file.now c.args.certificate.now told.model told.file c.in_ok-line.line s came.comes
    (λ failing. subst (λ path. IsOneOf failed (path ∷ [])) c.as_str-3.ensures (c.in_err-certificate.ensures.read.path failing)))))

pub returns-in_err-check_done-clause-given : goal.returns-in_err-check_done-clause-given
returns-in_err-check_done-clause-given g c =
    let dialect = c.args.dialect in
    let e : c.from_residual-in_err-check_done.result ≡ Err failure.NoMemory = search rules in
    let failed = g.F.Files.failed c.load_certificate.new.files in
    given_then _ _ _ _ _ _ _ _ _ _ _ _ _ _ _
    (line_named _ _ _ _ _ _ _ _ _ _ _ _ _ c.as_str.ensures c.as_str-2.ensures c.in_ok-line.ensures.given) refl (λ told. refl) c.load_product_line.ensures.kept
    (given_so _ _ _ _ _ _ _ (IsOk c.from_residual-in_err-check_done.result) _ _
    (given_named _ _ _ _ _ _ _ _ _ (ap (λ p. certificate_source p ∷ []) c.as_str-3.ensures)
    (given_of _ _ _ _ _ _ _ _ (λ (told : Contents). told.certificate) c.in_ok-certificate.ensures.given)) (λ ok. absurd (search rules)) (λ told came. came))
    (λ told came then. subst (λ r. IsRight (AnswersCheck dialect told) (PromisedCheck dialect told)
    (IsLoadedForCheck dialect c.args.model.now c.args.file.now c.args.certificate.now told.model told.file) failed r) (sym e) (right_no_memory _ _ _ failed))

pub returns-clause-given : goal.returns-clause-given
returns-clause-given g c =
    let l = c.in_ok-line.line in
    given_then _ _ _ _ _ _ _ _ _ _ _ _ _ _ _
    (line_named _ _ _ _ _ _ _ _ _ _ _ _ _ c.as_str.ensures c.as_str-2.ensures c.in_ok-line.ensures.given) refl (λ told. refl) c.load_product_line.ensures.kept
    (given_named _ _ _ _ _ _ _ _ _ (ap (λ p. certificate_source p ∷ []) c.as_str-3.ensures)
    (given_of _ _ _ _ _ _ _ _ (λ (told : Contents). told.certificate) c.in_ok-certificate.ensures.given))
    (λ told came then. right_done _ _ _ _ c.in_ok-check_done.field-0 (l, came.comes, c.in_ok-check_done.ensures.answer told.certificate then)
    (l, came.comes, c.in_ok-check_done.ensures.promise told.certificate then))
