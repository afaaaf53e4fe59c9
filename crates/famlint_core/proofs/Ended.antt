-- What the work came to ends the program with an answer to the request.
use Rattle.std.proofs.Common.{◌≡◌, ◌≢◌, ◌≤◌, ◌⊎◌, ℕ, true, false, List, refl, subst, sym, ◌∙◌, arith, inl, inr, nat_eq, length}
use Rattle.std.proofs.lemmas.Bool.{eqb-true, eqb-false}
use Rattle.std.specs.Prelude.{Option, Some, None, Result, Ok, Err, IfOk, if◌then◌else◌, nat_lt}
use Rattle.std.specs.Io.KnownBytes.{Appends}
use Rattle.c_tree.specs.Tree.{Whole}
use Rattle.c_tree.specs.View.{whole}
use Rattle.leaf_domain.specs.Leaves.{LeafMeaning}
use Rattle.plain_analysis.specs.declared.alarm.Alarm.{Alarm}
use Rattle.linear_atoms.specs.declared.regions.Regions.{Regions}
use Rattle.plain_analysis.specs.declared.options.Options.{Options}
use Rattle.alarm_report.specs.declared.alarms.FamilyAlarm.{FamilyAlarm}
use Rattle.configuration_advice.specs.declared.comparing.Advice.{Advice}
use Rattle.invariant_certificate.specs.declared.verdicts.Verdict.{Verdict}
use Rattle.invariant_certificate.specs.declared.verdicts.Verdict.TheVariants.{Yes, NotInductive, Unlisted}
use Rattle.famlint_families.specs.Pages.{IsPageDone}
use Rattle.famlint_requests.specs.MadeBy.{made_by}
use Rattle.famlint_families.specs.Advised.{advice_status}
use Rattle.famlint_requests.specs.declared.request.Analysis.{Analysis}
use Rattle.famlint_loads.specs.declared.fault.Done.{Done}
use Rattle.famlint_loads.specs.declared.fault.Fault.{Fault}
use Rattle.famlint_loads.specs.declared.fault.Fault.TheVariants as fault
use Rattle.famlint_loads.specs.declared.fault.Failure.{Failure}
use Rattle.famlint_loads.specs.declared.fault.Failure.TheVariants as failure
use Rattle.famlint_loads.specs.declared.product_line.ProductLine.{ProductLine}
use Rattle.famlint_requests.specs.declared.request.FamilyTask.{FamilyTask}
use Rattle.famlint_requests.specs.declared.request.FamilyTask.TheVariants as families
use Rattle.famlint_requests.specs.declared.request.Request.{Request}
use Rattle.famlint_requests.specs.declared.request.Request.TheVariants as request
use Rattle.famlint_requests.specs.declared.request.Role.{Role}
use Rattle.famlint_requests.specs.declared.request.VariantTask.{VariantTask}
use Rattle.famlint_requests.specs.declared.request.VariantTask.TheVariants as task
use Rattle.famlint_loads.specs.declared.selected.Selected.{Selected}
use Rattle.famlint_loads.specs.Contents.{Contents}
use Rattle.famlint_core.specs.Answers.{IsAccepted, Answers}
use Rattle.famlint_programs.specs.AnalysisOptions.{options_of}
use Rattle.famlint_programs.specs.ProgramAnswers.{IsDone, program_done, file_of, meaning_of}
use Rattle.famlint_checks.specs.Checked.{verdict_status}
use Rattle.famlint_core.specs.Endings.{Streams, IsEnded, EndsWith, status_at}
use Rattle.famlint_families.specs.FamilyReports.{IsFamilyDone, family_status}
use Rattle.famlint_loads.specs.Faults.{status_of}
use Rattle.famlint_loads.specs.Loads.{Comes}
use Rattle.famlint_programs.specs.Report.{report_status, some_alarm, start_alarms}

-- what the work came to is what the program ended with
pub ends_with : (MayBe : Result Done Fault → Type 0) (came : Result Done Failure) (role : Role) (status : ℕ)
    (before after : Streams)
    → Comes MayBe came → IsEnded came role status before after → EndsWith MayBe role status before after
ends_with MayBe (Ok done) role status before after comes ended = inr (inr (Ok done, comes, ended.ends))
ends_with MayBe (Err (failure.Refused given)) role status before after comes ended = inr (inr (Err given, comes, ended.ends))
ends_with MayBe (Err failure.ReadFault) role status before after comes ended = inl ended.ends.0
ends_with MayBe (Err failure.NoMemory) role status before after comes ended = inr (inl ended.ends.0)

pub refused_high : (f : Fault) → 3 ≤ status_of f
refused_high (fault.Model given) = omega arith
refused_high (fault.File code place example) = omega arith
refused_high (fault.Settings given name) = omega arith
refused_high (fault.Certificate given) = omega arith

-- at 0 and 1 the whole output was appended, of which this holds
pub appended : (P : ℕ → List ℕ → Type 0) (came : Result Done Failure) (role : Role) (status : ℕ) (before after : Streams)
    → IfOk came (λ done. P done.status done.text) → IsEnded came role status before after → status ≤ 1
    → (text : List ℕ) × Appends before.out after.out text × P status text
appended P (Ok done) role status before after promised ended low =
    let e : status ≡ done.status = ended.ends.exact (omega (arith, low)) (omega (arith, low)) (omega (arith, low)) in
    (done.text, ended.ends.whole low, subst (λ (n : ℕ). P n done.text) (sym e) promised)
appended P (Err (failure.Refused given)) role status before after promised ended low =
    let e : status ≡ status_of given = ended.ends.exact (omega (arith, low)) (omega (arith, low)) (omega (arith, low)) in absurd (omega (arith, low, e, refused_high given))
appended P (Err failure.ReadFault) role status before after promised ended low = absurd (omega (arith, low, ended.ends.0))
appended P (Err failure.NoMemory) role status before after promised ended low = absurd (omega (arith, low, ended.ends.0))

-- ---- the request that was read

pub same_request : (o : Option Request) (r s : Request) → o ≡ Some r → o ≡ Some s → r ≡ s
same_request o r s h k = let e : (let x : Option Request = Some r in x) ≡ Some s = sym h ∙ k in cc

-- ---- what is accepted is answered

report_status_low : (alarms : List Alarm) → report_status alarms ≤ 1
report_status_low alarms = elim (some_alarm alarms) as (λ b. (if b then 1 else 0) ≤ 1) [ true ↦ omega arith | false ↦ omega arith ]

program_low : (analysis : Analysis) (file p : Whole) (done : Done) → done ≡ program_done analysis file p → done.status ≤ 1
program_low analysis file p done e = rw e (report_status_low (start_alarms (meaning_of analysis.domain) (options_of analysis file) p))

done_low : (t : VariantTask) (s : Selected) (done : Done) → IsDone t s done → done.status ≤ 1
done_low task.Project s done h = omega (arith, h.1)
done_low (task.Variant analysis) s done (p, is, e) = program_low analysis (file_of s) p done e
done_low (task.Run steps inputs mode) s done (p, is, e) = rw e (omega arith)

family_status_low : (alarms : List FamilyAlarm) → family_status alarms ≤ 1
family_status_low alarms = elim (nat_lt 0 (length alarms)) as (λ b. (if b then 1 else 0) ≤ 1) [ true ↦ omega arith | false ↦ omega arith ]

family_low : (M : LeafMeaning) (o : Options) (r : Regions) (t : FamilyTask) (l : ProductLine) (done : Done) → IsFamilyDone M o r t l done → done.status ≤ 1
family_low M o r families.Analyse l done (alarms, are, e) = rw e (family_status_low alarms)
family_low M o r families.Invariants l done (invariants, alarms, are, have, e) = rw e (family_status_low alarms)
family_low M o r families.Certify l done (loops, alarms, are, have, e) = rw e (family_status_low alarms)
family_low M o r families.Generate l done (alarms, are, e) = rw e (family_status_low alarms)

page_low : (M : LeafMeaning) (o : Options) (r : Regions) (l : ProductLine) (model made : List ℕ) (done : Done) → IsPageDone M o r l model made done → done.status ≤ 1
page_low M o r l model made done (invariants, alarms, are, have, e) = rw e (family_status_low alarms)

verdict_low : (verdict : Verdict) (done : Done) → done.status ≡ verdict_status verdict → done.status ≤ 1
verdict_low Yes done e = omega (arith, e)
verdict_low (NotInductive place config) done e = omega (arith, e)
verdict_low (Unlisted place kind config) done e = omega (arith, e)

advice_low : (found : Option Advice) (done : Done) → done.status ≡ advice_status found → done.status ≤ 1
advice_low None done e = omega (arith, e)
advice_low (Some advice) done e = omega (arith, e)

answered_low : (r : Request) (told : Contents) (done : Done) → Answers r told (Ok done) → done.status ≤ 1
answered_low (request.Plain file includes analysis) told done (p, reads, e) = program_low analysis p p done e
answered_low (request.Variant model file dialect settings t) told done (s, selected, is) = done_low t s done is
answered_low (request.Family model file dialect analysis regions t) told done (l, line, is) = family_low (meaning_of analysis.domain) (options_of analysis (whole l.family.code)) regions t l done is
answered_low (request.Page model file dialect analysis regions) told done (l, line, is) = page_low (meaning_of analysis.domain) (options_of analysis (whole l.family.code)) regions l told.model (made_by dialect analysis regions) done is
answered_low (request.Generate number analysis regions) told done (l, line, is) = family_low (meaning_of analysis.domain) (options_of analysis (whole l.family.code)) regions families.Generate l done is
answered_low (request.Check model file certificate dialect) told done (l, line, is) = verdict_low is.verdict done is.status
answered_low (request.Advice model file dialect settings analysis) told done (s, selected, is) = advice_low is.found done is.status
answered_low (request.Features model unknown) told done (m, is, uses) = let e : done.status ≡ 0 = uses.status in omega (arith, e)
answered_low (request.Guide guide) told done e = rw e (omega arith)

by_exact : (status low : ℕ) → low ≤ 1 → (status ≡ 6 → ⊥) → (status ≡ 7 → ⊥) → (status ≢ 6 → status ≢ 7 → status ≢ 8 → status ≡ low) → (status ≤ 1) ⊎ (status ≡ 8)
by_exact status low small six seven exact = elim (nat_eq status 8) as (λ b. nat_eq status 8 ≡ b → (status ≤ 1) ⊎ (status ≡ 8)) [
  | true ↦ λ e. inr (eqb-true status 8 e)
  | false ↦ λ e. let k = exact six seven (eqb-false status 8 e) in inl (omega (arith, k, small))
] refl

-- what is accepted is answered
pub completed : (r : Request) (told : Contents) (role : Role) (status : ℕ) (before after : Streams) → IsAccepted r told
    → EndsWith (Answers r told) role status before after
    → (status ≡ 6 → ⊥) → (status ≡ 7 → ⊥) → (status ≤ 1) ⊎ (status ≡ 8)
completed r told role status before after accepted (inl read) six seven = absurd (six read)
completed r told role status before after accepted (inr (inl memory)) six seven = inr memory
completed r told role status before after accepted (inr (inr (Ok done, answers, ends))) six seven =
    by_exact status done.status (answered_low r told done answers) six seven ends.exact
completed r told role status before after accepted (inr (inr (Err given, answers, ends))) six seven = absurd (accepted given answers)

-- where no load failed and memory did not run out, the status is that of an answer, if no write failed
pub exactly : (MayBe : Result Done Fault → Type 0) (role : Role) (status : ℕ) (before after : Streams)
    → EndsWith MayBe role status before after → status ≢ 6 → status ≢ 7 → status ≢ 8
    → (answer : Result Done Fault) × MayBe answer × (status ≡ status_at answer)
exactly MayBe role status before after (inl read) six seven eight = absurd (six read)
exactly MayBe role status before after (inr (inl memory)) six seven eight = absurd (eight memory)
exactly MayBe role status before after (inr (inr (answer, may, ends))) six seven eight = (answer, may, ends.exact six seven eight)
