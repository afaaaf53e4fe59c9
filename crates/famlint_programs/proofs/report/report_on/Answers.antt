use Rattle.std.proofs.Common.{◌≡◌, ◌∙◌, ap, rules, subst}
use Rattle.c_tree.specs.View.{whole}
use Rattle.plain_analysis.specs.Promises.{RunsForeseen}
use Rattle.alarm_report.specs.Texts.{variant_text, HaveWordPlaces}
use Rattle.famlint_programs.specs.Report.{report_status, start_alarms}
use Rattle.famlint_programs.proofs.Reporting.{is_report}
use Rattle.famlint_programs.proofs.report.report_on.Goals as goal

pub returns-clause-report : goal.returns-clause-report
returns-clause-report g c =
    let M = g.L.Leaf.meaning in
    let p = whole c.args.program.now in
    let e : c.in_ok-variant_report.field-0 ≡ variant_text (start_alarms M c.args.options.now p) = search rules in
    let f : c.report_status.result ≡ report_status (start_alarms M c.args.options.now p) = search rules in
    let begins = c.in_ok-start.ensures ∙ ap M.start c.items.ensures in
    let words : HaveWordPlaces (start_alarms M c.args.options.now p) = search rules in
    is_report M g.met.L.Leaf.laws c.args.options.now p c.report_status.result c.in_ok-variant_report.field-0 c.requires.program
    (subst (RunsForeseen M c.args.options.now p) begins c.in_ok-findings.ensures.runs) words c.reports_tell_their_alarms.ensures e f
