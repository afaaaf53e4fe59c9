use Rattle.std.proofs.Common.{◌≡◌, Err, sym, subst, rules}
use Rattle.fam_outer.proofs.Given.{given_so}
use Rattle.famlint_loads.specs.declared.fault.Failure.TheVariants as failure
use Rattle.famlint_loads.specs.Loads.{IsRight}
use Rattle.famlint_loads.specs.ProductLines.{IsLoadedFor, ReadsProductLine}
use Rattle.famlint_loads.proofs.Right.{line_named, right_done, right_no_memory, right_of_line}
use Rattle.famlint_families.specs.FamilyAnswers.{AnswersFamily, PromisedFamily}
use Rattle.famlint_families.proofs.family.family.Goals as goal

pub returns-in_err-line-clause-given : goal.returns-in_err-line-clause-given
returns-in_err-line-clause-given g c =
    let dialect = c.args.dialect in
    let s = c.in_err-line.field-0.0 in
    let e : c.from_residual.result ≡ Err s = search rules in
    let failed = g.F.Files.failed c.load_product_line.new.files in
    given_so _ _ _ _ _ _ _ _ _ _ (line_named _ _ _ _ _ _ _ _ _ _ _ _ _ c.as_str.ensures c.as_str-2.ensures c.in_err-line.ensures.given) (λ ok. absurd (search rules))
    (λ told came. subst (λ r. IsRight (AnswersFamily dialect c.args.analysis.now c.args.regions c.args.task told) (PromisedFamily dialect c.args.analysis.now c.args.regions c.args.task told)
    (IsLoadedFor dialect.unknown c.args.model.now c.args.file.now told.model) failed r) (sym e)
    (right_of_line (ReadsProductLine dialect told.model told.file) _ _ dialect.unknown c.args.model.now c.args.file.now told.model failed s (λ fault h. h) came))

pub returns-in_err-report_by-clause-given : goal.returns-in_err-report_by-clause-given
returns-in_err-report_by-clause-given g c =
    let dialect = c.args.dialect in
    let e : c.from_residual-in_err-report_by.result ≡ Err failure.NoMemory = search rules in
    let failed = g.F.Files.failed c.load_product_line.new.files in
    given_so _ _ _ _ _ _ _ _ _ _ (line_named _ _ _ _ _ _ _ _ _ _ _ _ _ c.as_str.ensures c.as_str-2.ensures c.in_ok-line.ensures.given) (λ ok. absurd (search rules))
    (λ told came. subst (λ r. IsRight (AnswersFamily dialect c.args.analysis.now c.args.regions c.args.task told) (PromisedFamily dialect c.args.analysis.now c.args.regions c.args.task told)
    (IsLoadedFor dialect.unknown c.args.model.now c.args.file.now told.model) failed r) (sym e) (right_no_memory _ _ _ failed))

pub returns-clause-given : goal.returns-clause-given
returns-clause-given g c =
    let l = c.in_ok-line.line in
    given_so _ _ _ _ _ _ _ _ _ _ (line_named _ _ _ _ _ _ _ _ _ _ _ _ _ c.as_str.ensures c.as_str-2.ensures c.in_ok-line.ensures.given) (λ ok. search rules)
    (λ told came. right_done _ _ _ _ c.in_ok-report_by.field-0 (l, came.comes, c.in_ok-report_by.ensures.answer) (l, came.comes, c.in_ok-report_by.ensures.promise))
