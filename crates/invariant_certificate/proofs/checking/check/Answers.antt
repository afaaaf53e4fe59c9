use Rattle.std.proofs.Common.{◌≡◌, length, List, sym, subst, Bool}
use Rattle.std.proofs.lemmas.Result.{IfOk-weaker}
use Rattle.c_tree.specs.View.{whole}
use Rattle.decision_tree.specs.View as tree
use Rattle.lifted_analysis.specs.declared.lines.LoopLine.{LoopLine}
use Rattle.lifted_analysis.specs.Lines.{AreRegionsBelow}
use Rattle.lifted_analysis.specs.Pass.{heads_at, turns_at_vector}
use Rattle.lifted_analysis.specs.Promises.{variant_at, begin_at, AreBelow}
use Rattle.lifted_analysis.specs.Turns.{AreInductive}
use Rattle.plain_analysis.specs.Promises.{RunsForeseenBy}
use Rattle.invariant_certificate.specs.declared.verdicts.Verdict.TheVariants.{Yes}
use Rattle.invariant_certificate.specs.FirstFailing.{IsJudged}
use Rattle.invariant_certificate.specs.Verdicts.{IsVerdict, StopsAreListed}
use Rattle.invariant_certificate.proofs.Belows.{more_below, more_regions}
use Rattle.invariant_certificate.proofs.Judged.{verdict_as, passed_as, sound_if_yes}
use Rattle.invariant_certificate.proofs.Passed.{stops_listed}
use Rattle.invariant_certificate.proofs.checking.check.Goals as goal

pub pass_family-requires-clause-below : goal.pass_family-requires-clause-below
pass_family-requires-clause-below g c =
    more_below (length c.args.atoms.now) 320 c.requires.few c.args.conditions.now c.in_ok-plausible.plausible
    (record { each = c.requires.below; last = c.in_ok-plausible.ensures.below })

pub pass_family-requires-clause-regions : goal.pass_family-requires-clause-regions
pass_family-requires-clause-regions g c =
    subst (AreRegionsBelow 320) (sym c.as_slice-loops.ensures.value)
    (more_regions (length c.args.atoms.now) 320 c.requires.few c.args.certificate.now.loops.items c.requires.regions)

pub judged-requires-clause-loops : goal.judged-requires-clause-loops
judged-requires-clause-loops g c = λ k d lt.
    (c.in_ok-found.ensures.inductive (length c.args.atoms.now) (record { each = c.requires.below; last = c.in_ok-plausible.ensures.below })
    (subst (AreRegionsBelow (length c.args.atoms.now)) (sym c.as_slice-loops.ensures.value) c.requires.regions) k d lt).tests

pub judged-requires-clause-alarms : goal.judged-requires-clause-alarms
judged-requires-clause-alarms g c = λ k d lt.
    (c.in_ok-found.ensures.alarms (length c.args.atoms.now) (record { each = c.requires.below; last = c.in_ok-plausible.ensures.below })
    (subst (AreRegionsBelow (length c.args.atoms.now)) (sym c.as_slice-loops.ensures.value) c.requires.regions) k d lt).tests

pub returns-clause-verdict : goal.returns-clause-verdict
returns-clause-verdict g c =
    let M = g.L.Leaf.meaning in
    let model = c.args.model.now in
    let p = whole c.args.code.now in
    let cs = c.args.conditions.now in
    let ats = c.args.atoms.now in
    let certificate = c.args.certificate.now in
    let pl = c.in_ok-plausible.plausible in
    let loops = c.in_ok-found.found.loops.items in
    let alarms = c.in_ok-found.found.alarms.items in
    let below : AreBelow (length ats) cs pl = record { each = c.requires.below; last = c.in_ok-plausible.ensures.below } in
    let regions = subst (AreRegionsBelow (length ats)) (sym c.as_slice-loops.ensures.value) c.requires.regions in
    let passed = passed_as M model p cs ats certificate pl loops alarms c.as_slice-loops.result.now c.as_slice-loops.ensures.value c.in_ok-plausible.ensures.valid
    (c.in_ok-found.ensures.alarms (length ats) below regions) (c.in_ok-found.ensures.inductive (length ats) below regions) in
    IfOk-weaker c.judged.result (IsJudged c.in_ok-prepared.prepared ats c.as_slice-lines.result.now loops alarms) (IsVerdict M model p cs ats certificate)
    (λ v. verdict_as M model p cs ats certificate pl loops alarms passed c.in_ok-found.ensures.loops c.in_ok-found.ensures.kinds c.in_ok-prepared.prepared
    c.as_slice-lines.result.now v c.in_ok-prepared.ensures c.as_slice-lines.ensures.value)
    c.judged.ensures

pub returns-clause-sound : goal.returns-clause-sound
returns-clause-sound g c =
    let M = g.L.Leaf.meaning in
    let model = c.args.model.now in
    let p = whole c.args.code.now in
    let cs = c.args.conditions.now in
    let ats = c.args.atoms.now in
    let certificate = c.args.certificate.now in
    let pl = c.in_ok-plausible.plausible in
    let loops = c.in_ok-found.found.loops.items in
    let alarms = c.in_ok-found.found.alarms.items in
    let below : AreBelow (length ats) cs pl = record { each = c.requires.below; last = c.in_ok-plausible.ensures.below } in
    let regions = subst (AreRegionsBelow (length ats)) (sym c.as_slice-loops.ensures.value) c.requires.regions in
    let passed = passed_as M model p cs ats certificate pl loops alarms c.as_slice-loops.result.now c.as_slice-loops.ensures.value c.in_ok-plausible.ensures.valid
    (c.in_ok-found.ensures.alarms (length ats) below regions) (c.in_ok-found.ensures.inductive (length ats) below regions) in
    let runs = subst (λ (ls : List LoopLine). (v : List Bool) → AreInductive M (turns_at_vector M certificate.mode p cs pl ls v)
    → RunsForeseenBy M certificate.mode (heads_at M p cs pl ls v) (variant_at p cs v) (begin_at M p cs pl v)) c.as_slice-loops.ensures.value c.pass_family.ensures.runs in
    IfOk-weaker c.judged.result (IsJudged c.in_ok-prepared.prepared ats c.as_slice-lines.result.now loops alarms) (λ v. v ≡ Yes → StopsAreListed M model p cs ats certificate)
    (λ v j yes. sound_if_yes M model p cs ats certificate v yes
    (verdict_as M model p cs ats certificate pl loops alarms passed c.in_ok-found.ensures.loops c.in_ok-found.ensures.kinds c.in_ok-prepared.prepared
    c.as_slice-lines.result.now v c.in_ok-prepared.ensures c.as_slice-lines.ensures.value j)
    (stops_listed M model p cs ats certificate pl g.met.L.Leaf.laws c.requires.program c.in_ok-plausible.ensures.valid runs))
    c.judged.ensures
