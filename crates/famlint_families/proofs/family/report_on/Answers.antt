use Rattle.std.proofs.Common.{subst, sym}
use Rattle.famlint_families.specs.Findings.{AreGoodAlarms}
use Rattle.famlint_families.proofs.Foretold.{done_as, promised_as}
use Rattle.famlint_families.proofs.family.report_on.Goals as goal

pub returns-clause-answer : goal.returns-clause-answer
returns-clause-answer g c =
    let M = g.L.Leaf.meaning in
    let o = c.args.options.now in
    let r = c.args.regions in
    let l = c.args.line.now in
    let alarms = c.items-alarms.result.now in
    let found = c.in_ok-findings.ensures.found in
    let good = subst (AreGoodAlarms M o r l) (sym c.items-alarms.ensures) (c.in_ok-found.ensures.good o r found) in
    done_as M o r c.args.task l alarms c.in_ok-text.text c.family_status.result good (c.in_ok-text.ensures found) c.family_status.ensures

pub returns-clause-promise : goal.returns-clause-promise
returns-clause-promise g c =
    let M = g.L.Leaf.meaning in
    let o = c.args.options.now in
    let r = c.args.regions in
    let l = c.args.line.now in
    let alarms = c.items-alarms.result.now in
    let found = c.in_ok-findings.ensures.found in
    let good = subst (AreGoodAlarms M o r l) (sym c.items-alarms.ensures) (c.in_ok-found.ensures.good o r found) in
    promised_as M o r c.args.task l alarms c.in_ok-text.text c.family_status.result good (c.in_ok-text.ensures found) c.family_status.ensures
