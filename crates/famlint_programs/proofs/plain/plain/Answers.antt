use Rattle.std.proofs.Common.{◌≡◌, ◌∙◌, ℕ, List, [], ◌∷◌, Err, Some, ap, sym, subst, rules}
use Rattle.std.specs.Prelude.{IfOk}
use Rattle.fam_outer.proofs.Given.{given_so}
use Rattle.famlint_loads.specs.declared.fault.Done.{Done}
use Rattle.famlint_loads.specs.Loads.{Comes, IsOneOf, IsRight, file_source}
use Rattle.famlint_loads.proofs.Loading.{fault_of_any}
use Rattle.famlint_loads.proofs.Right.{given_named, only_path, right_refused}
use Rattle.famlint_programs.specs.ProgramAnswers.{AnswersPlain, PromisedPlain}
use Rattle.famlint_programs.proofs.Refusing.{plain_refused}
use Rattle.famlint_programs.proofs.plain.plain.Goals as goal

pub returns-in_err-text-clause-given : goal.returns-in_err-text-clause-given
returns-in_err-text-clause-given g c =
    let includes = c.args.includes in
    let analysis = c.args.analysis.now in
    let path = c.args.file.now in
    let s = c.in_err-text.field-0.0 in
    let e : c.from_residual.result ≡ Err s = search rules in
    let failed = g.F.Files.failed c.load_file.new.files in
    given_so _ _ _ _ _ _ _ _ _ _ (given_named _ _ _ _ _ _ _ _ _ (ap (λ p. file_source p ∷ []) c.as_str.ensures) c.in_err-text.ensures.given) (λ ok. absurd (search rules))
    (λ bytes came. subst (λ r. IsRight (AnswersPlain includes analysis bytes) (PromisedPlain includes analysis bytes) (λ f. f ≡ Some path) failed r) (sym e)
    (right_refused _ _ _ failed s (plain_refused includes analysis bytes s came)
    (λ h. only_path failed path (subst (λ p. IsOneOf failed (p ∷ [])) c.as_str.ensures (c.in_err-text.ensures.read.path (fault_of_any Done (List ℕ) s h))))))

pub returns-clause-given : goal.returns-clause-given
returns-clause-given g c =
    let includes = c.args.includes in
    let analysis = c.args.analysis.now in
    given_so _ _ _ _ _ _ _ _ _ _ (given_named _ _ _ _ _ _ _ _ _ (ap (λ p. file_source p ∷ []) c.as_str.ensures) c.in_ok-text.ensures.given) (λ ok. search rules)
    (λ bytes came. record {
      answer = subst (λ t. Comes (AnswersPlain includes analysis t) c.report_on_bytes.result) (c.bytes.ensures ∙ came.0) c.report_on_bytes.ensures.answer;
      promise = subst (λ t. IfOk c.report_on_bytes.result (λ done. PromisedPlain includes analysis t done.status done.text)) (c.bytes.ensures ∙ came.0) c.report_on_bytes.ensures.promise;
      order = λ h. absurd (c.report_on_bytes.ensures.read h);
    })
