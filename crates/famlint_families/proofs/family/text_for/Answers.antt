use Rattle.std.proofs.Common.{◌≡◌, ◌++◌, ◌∙◌, ap, subst, sym}
use Rattle.std.specs.Prelude.{IfOk}
use Rattle.alarm_report.specs.Texts.{alarm_text}
use Rattle.famlint_families.specs.FamilyReports.{sizes_text}
use Rattle.famlint_families.specs.Findings.{AreInvariantsBefore, IsGoodText}
use Rattle.famlint_families.proofs.family.text_for.Goals as goal

pub returns-in_ok-told-in-Invariants : goal.returns-in_ok-told-in-Invariants
returns-in_ok-told-in-Invariants g c = λ found.
    let M = g.L.Leaf.meaning in
    let o = c.args.options.now in
    let r = c.args.regions in
    let l = c.args.line.now in
    let alarms = c.args.alarms.now in
    let told : c.in_ok-told-in-Invariants.told ≡ alarm_text r l.model.features alarms =
    c.in_ok-told-in-Invariants.ensures ∙ ap (λ fs. alarm_text r fs alarms) c.items-features.ensures in
    let before = subst (λ t. IfOk c.invariants_before.result (λ text. AreInvariantsBefore M o r l t text)) told (c.invariants_before.ensures o found) in
    subst (λ task. IfOk c.invariants_before.result (λ text. IsGoodText M o r task l alarms text)) (sym c.in-Invariants.is) before

pub returns-in_ok-told-in-Generate : goal.returns-in_ok-told-in-Generate
returns-in_ok-told-in-Generate g c = λ found.
    let M = g.L.Leaf.meaning in
    let o = c.args.options.now in
    let r = c.args.regions in
    let l = c.args.line.now in
    let alarms = c.args.alarms.now in
    let told : c.in_ok-told-in-Generate.told ≡ alarm_text r l.model.features alarms =
    c.in_ok-told-in-Generate.ensures ∙ ap (λ fs. alarm_text r fs alarms) c.items-features.ensures in
    let behind = subst (λ t. IfOk c.sizes_before.result (λ text. text ≡ sizes_text l ++ t)) told (c.sizes_before.ensures o r found) in
    subst (λ task. IfOk c.sizes_before.result (λ text. IsGoodText M o r task l alarms text)) (sym c.in-Generate.is) behind
