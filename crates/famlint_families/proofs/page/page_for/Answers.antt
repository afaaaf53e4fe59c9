use Rattle.famlint_families.proofs.Paging.{page_done, page_tells}
use Rattle.c_tree.specs.View.{whole}
use Rattle.famlint_programs.specs.AnalysisOptions.{options_of}
use Rattle.famlint_programs.specs.ProgramAnswers.{meaning_of}
use Rattle.famlint_requests.specs.MadeBy.{made_by}
use Rattle.famlint_families.proofs.page.page_for.Goals as goal

pub returns-clause-answer : goal.returns-clause-answer
returns-clause-answer c =
    let analysis = c.args.analysis.now in
    let l = c.args.files.now.line in
    page_done (meaning_of analysis.domain) (options_of analysis (whole l.family.code)) c.args.regions l c.args.files.now.model_text c.in_ok-report.report c.in_ok-report.ensures
    c.in_ok-made.made (made_by l.dialect analysis c.args.regions) c.in_ok-made.ensures c.in_ok-text.text c.in_ok-text.ensures.page

pub returns-clause-promise : goal.returns-clause-promise
returns-clause-promise c =
    let analysis = c.args.analysis.now in
    let l = c.args.files.now.line in
    page_tells (meaning_of analysis.domain) (options_of analysis (whole l.family.code)) c.args.regions l c.args.files.now.model_text c.in_ok-report.report c.in_ok-report.ensures
    c.in_ok-made.made (made_by l.dialect analysis c.args.regions) c.in_ok-made.ensures c.in_ok-text.text c.in_ok-text.ensures.told
