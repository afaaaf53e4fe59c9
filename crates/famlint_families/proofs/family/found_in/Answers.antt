use Rattle.std.proofs.Common.{length, sym, subst}
use Rattle.std.specs.Prelude.{IfOk}
use Rattle.cpp_conditions.specs.Numbering.{AreAllAmong}
use Rattle.cpp_conditions.specs.Propositions.{IsBelow}
use Rattle.cpp_conditions.specs.Validity.{plain}
use Rattle.cpp_conditions.specs.View.{formula}
use Rattle.lifted_analysis.specs.Promises.{AreBelow}
use Rattle.famlint_families.specs.Findings.{IsFound}
use Rattle.famlint_loads.proofs.Selecting.{among_of}
use Rattle.famlint_families.proofs.Analysed.{IsAnalysed, below_most, is_found, are_tested, merged_all, merged_of, found_by, tested_by}
use Rattle.famlint_families.proofs.family.found_in.Goals as goal

pub plausible-requires-clause-among : goal.plausible-requires-clause-among
plausible-requires-clause-among g c =
    let l = c.args.line.now in
    subst (λ atoms. AreAllAmong atoms (plain l.model).constraints) (sym c.items.ensures) (among_of l c.requires)

pub analyse_family-requires-clause-below : goal.analyse_family-requires-clause-below
analyse_family-requires-clause-below g c =
    let l = c.args.line.now in
    let p = c.in_ok-plausible.plausible in
    let below : IsBelow (length l.family.atoms) (formula p) = subst (λ atoms. IsBelow (length atoms) (formula p)) c.items.ensures c.in_ok-plausible.ensures.below in
    subst (λ cs. AreBelow 320 cs p) (sym c.items-conditions.ensures) (below_most l c.requires p below)

pub merged_findings-requires-clause-below : goal.merged_findings-requires-clause-below
merged_findings-requires-clause-below g c =
    let l = c.args.line.now in
    let p = c.in_ok-plausible.plausible in
    let below : IsBelow (length l.family.atoms) (formula p) = subst (λ atoms. IsBelow (length atoms) (formula p)) c.items.ensures c.in_ok-plausible.ensures.below in
    (below_most l c.requires p below).last

pub returns-in-Paths-clause-found : goal.returns-in-Paths-clause-found
returns-in-Paths-clause-found g c =
    let l = c.args.line.now in
    let p = c.in_ok-plausible.plausible in
    let f = c.in_ok-findings.findings in
    let value = g.L.Leaf.value in
    let M = g.L.Leaf.meaning in
    let o = c.args.options.now in
    let given : IsAnalysed value M o l p f c.items.result.now c.items-conditions.result.now = record {
      plausible = c.in_ok-plausible.ensures.exact;
      below = c.in_ok-plausible.ensures.below;
      valid = c.in_ok-plausible.ensures.valid;
      places = c.in_ok-findings.ensures.places;
      trees = c.in_ok-findings.ensures.trees;
      kinds = c.in_ok-findings.ensures.kinds;
      alarms = c.in_ok-findings.ensures.alarms;
      tests = c.in_ok-findings.ensures.below;
      runs = c.in_ok-findings.ensures.runs;
    } in
    let all = subst (λ atoms. IsAnalysed value M o l p f atoms l.family.conditions) c.items.ensures (subst (λ cs. IsAnalysed value M o l p f c.items.result.now cs) c.items-conditions.ensures given) in
    subst (λ r. IsFound value M o r l f) (sym c.in-Paths.is) (is_found value M o l c.requires p f all)

pub returns-in-Paths-clause-tested : goal.returns-in-Paths-clause-tested
returns-in-Paths-clause-tested g c =
    let l = c.args.line.now in
    let p = c.in_ok-plausible.plausible in
    let f = c.in_ok-findings.findings in
    let value = g.L.Leaf.value in
    let M = g.L.Leaf.meaning in
    let o = c.args.options.now in
    let given : IsAnalysed value M o l p f c.items.result.now c.items-conditions.result.now = record {
      plausible = c.in_ok-plausible.ensures.exact;
      below = c.in_ok-plausible.ensures.below;
      valid = c.in_ok-plausible.ensures.valid;
      places = c.in_ok-findings.ensures.places;
      trees = c.in_ok-findings.ensures.trees;
      kinds = c.in_ok-findings.ensures.kinds;
      alarms = c.in_ok-findings.ensures.alarms;
      tests = c.in_ok-findings.ensures.below;
      runs = c.in_ok-findings.ensures.runs;
    } in
    let all = subst (λ atoms. IsAnalysed value M o l p f atoms l.family.conditions) c.items.ensures (subst (λ cs. IsAnalysed value M o l p f c.items.result.now cs) c.items-conditions.ensures given) in
    are_tested value M o l c.requires p f all

pub returns-clause-found : goal.returns-clause-found
returns-clause-found g c =
    let l = c.args.line.now in
    let p = c.in_ok-plausible.plausible in
    let f = c.in_ok-findings.findings in
    let value = g.L.Leaf.value in
    let M = g.L.Leaf.meaning in
    let o = c.args.options.now in
    let given : IsAnalysed value M o l p f c.items.result.now c.items-conditions.result.now = record {
      plausible = c.in_ok-plausible.ensures.exact;
      below = c.in_ok-plausible.ensures.below;
      valid = c.in_ok-plausible.ensures.valid;
      places = c.in_ok-findings.ensures.places;
      trees = c.in_ok-findings.ensures.trees;
      kinds = c.in_ok-findings.ensures.kinds;
      alarms = c.in_ok-findings.ensures.alarms;
      tests = c.in_ok-findings.ensures.below;
      runs = c.in_ok-findings.ensures.runs;
    } in
    let all = subst (λ atoms. IsAnalysed value M o l p f atoms l.family.conditions) c.items.ensures (subst (λ cs. IsAnalysed value M o l p f c.items.result.now cs) c.items-conditions.ensures given) in
    let made = c.merged_findings.result in
    let ensures = c.merged_findings.ensures in
    let of = merged_of value p f made ensures.place_keys ensures.alarm_keys ensures.trees ensures.alarm_trees in
    subst (λ r. IfOk made (λ x. IsFound value M o r l x)) (sym c.in-Merged.is) (found_by value M o l made (merged_all value M o l c.requires p f all made of))

pub returns-clause-tested : goal.returns-clause-tested
returns-clause-tested g c =
    let l = c.args.line.now in
    let p = c.in_ok-plausible.plausible in
    let f = c.in_ok-findings.findings in
    let value = g.L.Leaf.value in
    let M = g.L.Leaf.meaning in
    let o = c.args.options.now in
    let given : IsAnalysed value M o l p f c.items.result.now c.items-conditions.result.now = record {
      plausible = c.in_ok-plausible.ensures.exact;
      below = c.in_ok-plausible.ensures.below;
      valid = c.in_ok-plausible.ensures.valid;
      places = c.in_ok-findings.ensures.places;
      trees = c.in_ok-findings.ensures.trees;
      kinds = c.in_ok-findings.ensures.kinds;
      alarms = c.in_ok-findings.ensures.alarms;
      tests = c.in_ok-findings.ensures.below;
      runs = c.in_ok-findings.ensures.runs;
    } in
    let all = subst (λ atoms. IsAnalysed value M o l p f atoms l.family.conditions) c.items.ensures (subst (λ cs. IsAnalysed value M o l p f c.items.result.now cs) c.items-conditions.ensures given) in
    let made = c.merged_findings.result in
    let ensures = c.merged_findings.ensures in
    let of = merged_of value p f made ensures.place_keys ensures.alarm_keys ensures.trees ensures.alarm_trees in
    tested_by value M o l made (merged_all value M o l c.requires p f all made of)
