use Rattle.std.proofs.Common.{◌≡◌, Err, sym, subst, rules}
use Rattle.c_tree.specs.View.{whole}
use Rattle.fam_outer.proofs.Given.{given_so}
use Rattle.famlint_loads.specs.declared.fault.Failure.TheVariants as failure
use Rattle.famlint_loads.specs.Loads.{IsRight}
use Rattle.famlint_loads.specs.ProductLines.{IsLoadedFor, ReadsProductLineFiles}
use Rattle.famlint_loads.proofs.Right.{line_named, right_done, right_no_memory, right_of_line}
use Rattle.famlint_families.specs.FamilyAnswers.{AnswersPage, PromisedPage}
use Rattle.famlint_families.specs.Pages.{IsPageDone, TellsOfAll}
use Rattle.famlint_programs.specs.AnalysisOptions.{options_of}
use Rattle.famlint_programs.specs.ProgramAnswers.{meaning_of}
use Rattle.famlint_requests.specs.MadeBy.{made_by}
use Rattle.famlint_families.proofs.page.page.Goals as goal

pub returns-in_err-line-clause-given : goal.returns-in_err-line-clause-given
returns-in_err-line-clause-given g c =
    let dialect = c.args.dialect in
    let s = c.in_err-line.field-0.0 in
    let e : c.from_residual.result ≡ Err s = search rules in
    let failed = g.F.Files.failed c.load_product_line_files.new.files in
    given_so _ _ _ _ _ _ _ _ _ _ (line_named _ _ _ _ _ _ _ _ _ _ _ _ _ c.as_str.ensures c.as_str-2.ensures c.in_err-line.ensures.given) (λ ok. absurd (search rules))
    (λ told came. subst (λ r. IsRight (AnswersPage dialect c.args.analysis.now c.args.regions told) (PromisedPage dialect c.args.analysis.now c.args.regions told)
    (IsLoadedFor dialect.unknown c.args.model.now c.args.file.now told.model) failed r) (sym e)
    (right_of_line (ReadsProductLineFiles dialect told.model told.file) _ _ dialect.unknown c.args.model.now c.args.file.now told.model failed s (λ fault h. h) came))

pub returns-in_err-page_for-clause-given : goal.returns-in_err-page_for-clause-given
returns-in_err-page_for-clause-given g c =
    let dialect = c.args.dialect in
    let e : c.from_residual-in_err-page_for.result ≡ Err failure.NoMemory = search rules in
    let failed = g.F.Files.failed c.load_product_line_files.new.files in
    given_so _ _ _ _ _ _ _ _ _ _ (line_named _ _ _ _ _ _ _ _ _ _ _ _ _ c.as_str.ensures c.as_str-2.ensures c.in_ok-line.ensures.given) (λ ok. absurd (search rules))
    (λ told came. subst (λ r. IsRight (AnswersPage dialect c.args.analysis.now c.args.regions told) (PromisedPage dialect c.args.analysis.now c.args.regions told)
    (IsLoadedFor dialect.unknown c.args.model.now c.args.file.now told.model) failed r) (sym e) (right_no_memory _ _ _ failed))

pub returns-clause-given : goal.returns-clause-given
returns-clause-given g c =
    let analysis = c.args.analysis.now in
    let r = c.args.regions in
    let made = c.in_ok-line.line in
    let l = made.line in
    let M = meaning_of analysis.domain in
    let o = options_of analysis (whole l.family.code) in
    let done = c.in_ok-page_for.field-0 in
    given_so _ _ _ _ _ _ _ _ _ _ (line_named _ _ _ _ _ _ _ _ _ _ _ _ _ c.as_str.ensures c.as_str-2.ensures c.in_ok-line.ensures.given) (λ ok. search rules)
    (λ told came.
    let line = came.comes in
    let is = subst (λ m. IsPageDone M o r l m (made_by l.dialect analysis r) done) line.1 c.in_ok-page_for.ensures.answer in
    let tells = subst (λ m. TellsOfAll M o r l m (made_by l.dialect analysis r) done.status done.text) line.1 c.in_ok-page_for.ensures.promise in
    right_done _ _ _ _ done (l, line.0, subst (λ d. IsPageDone M o r l told.model (made_by d analysis r) done) line.0.dialect_is is)
    (l, line.0, subst (λ d. TellsOfAll M o r l told.model (made_by d analysis r) done.status done.text) line.0.dialect_is tells))
