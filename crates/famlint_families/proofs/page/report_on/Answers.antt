use Rattle.std.proofs.Common.{◌≡◌, ◌++◌, ◌∙◌, ap, subst, sym}
use Rattle.c_tree.specs.View.{whole}
use Rattle.alarm_report.specs.LeafTexts.{invariant_text}
use Rattle.alarm_report.specs.Texts.{alarm_text}
use Rattle.famlint_families.specs.Findings.{AreGoodAlarms}
use Rattle.famlint_families.proofs.page.report_on.Goals as goal

pub returns : goal.returns
returns g c =
    let M = g.L.Leaf.meaning in
    let o = c.args.options.now in
    let r = c.args.regions in
    let l = c.args.line.now in
    let alarms = c.items-alarms.result.now in
    let found = c.in_ok-findings.ensures.found in
    let before = c.in_ok-whole.ensures o found in
    let told : c.in_ok-told.told ≡ alarm_text r l.model.features alarms =
    c.in_ok-told.ensures ∙ ap (λ fs. alarm_text r fs alarms) c.items-features.ensures in
    record {
      invariants = before.invariants;
      alarms_are = alarms;
      good_invariants = before.good;
      good_alarms = subst (AreGoodAlarms M o r l) (sym c.items-alarms.ensures) (c.in_ok-found.ensures.good o r found);
      alarms = told;
      whole_is = before.is ∙ ap (λ t. invariant_text r M l.model.features (whole l.family.code).names before.invariants ++ t) told;
      status = c.family_status.ensures;
    }
