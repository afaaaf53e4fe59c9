use Rattle.std.proofs.Common.{◌≡◌, ◌∙◌, Err, sym, subst, rules}
use Rattle.fam_outer.proofs.Given.{given_so}
use Rattle.famlint_loads.specs.CertificateLoads.{ReadsCertificate}
use Rattle.famlint_loads.specs.Loads.{Comes}
use Rattle.famlint_loads.proofs.Loading.{certificate_refused}
use Rattle.famlint_loads.proofs.certificate.load_certificate.Goals as goal

pub returns-in_err-text-clause-given : goal.returns-in_err-text-clause-given
returns-in_err-text-clause-given g c =
    let l = c.args.line.now in
    let e : c.from_residual.result ≡ Err c.in_err-text.field-0.0 = search rules in
    given_so _ _ _ _ _ _ _ _ _ _ c.in_err-text.ensures.given (λ ok. absurd (search rules))
    (λ bytes came. subst (λ r. Comes (ReadsCertificate l bytes) r) (sym e) (certificate_refused l bytes c.in_err-text.field-0.0 came))

pub returns-clause-given : goal.returns-clause-given
returns-clause-given g c =
    let l = c.args.line.now in
    given_so _ _ _ _ _ _ _ _ _ _ c.in_ok-text.ensures.given (λ ok. search rules)
    (λ bytes came. subst (λ t. Comes (ReadsCertificate l t) c.certificate_of.result) (c.bytes.ensures ∙ came.0) c.certificate_of.ensures.certificate)
