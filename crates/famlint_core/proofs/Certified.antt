-- What `certify` writes is answered yes by `check`.
use Rattle.std.proofs.Common.{◌≡◌, ◌≢◌, ◌⊎◌, ◌≤◌, ℕ, ℤ, Bool, true, false, not, ◌||◌, List, map, length, refl, sym, ap, subst, ◌∙◌, inl, inr, nat_eq}
use Rattle.std.proofs.lemmas.Bool.{eqb-true, eqb-false, ltb-false}
use Rattle.std.proofs.lemmas.List.Elements.{All-weaker}
use Rattle.std.specs.Prelude.{nat_lt, Option, Some, None, Result, Ok, Err, if◌then◌else◌}
use Rattle.std.specs.List.{All}
use Rattle.fam_outer.specs.declared.dialect.Dialect.{Dialect}
use Rattle.fam_outer.specs.declared.dialect.Unknown.{Unknown}
use Rattle.fam_outer.specs.declared.faults.Place.{Place}
use Rattle.fam_outer.specs.declared.refusal.Refusal.{Refusal}
use Rattle.fam_outer.specs.declared.refusal.Refusal.TheVariants as refusals
use Rattle.c_tree.specs.declared.tree.Kind.{Kind}
use Rattle.c_tree.specs.Project.{projected_program}
use Rattle.c_tree.specs.Tree.{Whole}
use Rattle.c_tree.specs.View.{whole}
use Rattle.linear_atoms.specs.declared.atoms.Atom.{Atom}
use Rattle.linear_atoms.specs.declared.atoms.Feature.{Feature}
use Rattle.linear_atoms.specs.declared.regions.Regions.{Regions}
use Rattle.linear_atoms.specs.Atoms.{AreRanges}
use Rattle.cpp_conditions.specs.declared.formulas.Formula.{Formula}
use Rattle.cpp_conditions.specs.declared.models.Model.{Model}
use Rattle.cpp_conditions.specs.Numbering.{vector_at}
use Rattle.cpp_conditions.specs.Validity.{Plain, plain, IsValid}
use Rattle.cpp_conditions.specs.View.{formula}
use Rattle.feature_model.specs.declared.faults.ModelFault.{ModelFault}
use Rattle.feature_model.specs.declared.faults.ModelFault.TheVariants as model_faults
use Rattle.feature_model.specs.Features.{AreDistinct, AreNamed, HaveSwitches, feature, fault_of}
use Rattle.feature_model.specs.Models.{Ends, IsReadAs}
use Rattle.feature_model.specs.Models as models
use Rattle.feature_model.specs.Shapes.{Outline}
use Rattle.feature_model.specs.Stages.{◌>>=◌, unless, told_from}
use Rattle.feature_model.specs.Stages as stages
use Rattle.feature_model.proofs.Judging.{named_so, distinct_so, features_so, switches_so}
use Rattle.atom_solver.proofs.Ordered.{valid_plausible}
use Rattle.c_parser.proofs.KeptTexts.{TextsAreReadOnce}
use Rattle.leaf_domain.specs.Leaves.{LeafMeaning}
use Rattle.interval_leaf.specs.Intervals.{intervals}
use Rattle.plain_analysis.specs.declared.options.Options.{Options}
use Rattle.plain_analysis.specs.Ways.{enter}
use Rattle.plain_analysis.specs.Places.{alarm_by}
use Rattle.lifted_analysis.specs.Lines.{given_heads}
use Rattle.lifted_analysis.specs.Promises.{truths_of, leaf_at, stop_at}
use Rattle.lifted_analysis.specs.Turns.{turns_by, inductive_in}
use Rattle.merged_findings.specs.Merged.{IsTreeWhere}
use Rattle.alarm_report.specs.Alarms.{PlainAlarmTree}
use Rattle.alarm_report.specs.Invariants.{LeafTree}
use Rattle.certificate_format.specs.declared.certificates.Certificate.{Certificate}
use Rattle.certificate_format.specs.declared.certificates.CertificateFault.{CertificateFault}
use Rattle.certificate_format.specs.Certificates as reader
use Rattle.certificate_format.specs.Regions.{piece_of}
use Rattle.invariant_certificate.specs.declared.verdicts.Verdict.{Verdict}
use Rattle.invariant_certificate.specs.declared.verdicts.Verdict.TheVariants.{Yes, NotInductive, Unlisted}
use Rattle.invariant_certificate.specs.Failing.{HoldsAlways, AllHold, IsFirstFailing}
use Rattle.invariant_certificate.specs.Passes.{is_inductive, is_covered, is_listed}
use Rattle.invariant_certificate.specs.Verdicts.{IsVerdict}
use Rattle.certificate_laws.specs.Certified.{IsWrittenOf, IsReadAndAccepted, WrittenAnalysesAreAccepted}
use Rattle.certificate_laws.specs.Laws.{AreNames, FamiliesAreOfFiles}
use Rattle.certificate_laws.specs.Readings.{WrittenAnalysesAreSpelled}
use Rattle.famlint_loads.specs.declared.fault.Done.{Done}
use Rattle.famlint_loads.specs.declared.fault.Fault.{Fault}
use Rattle.famlint_loads.specs.declared.fault.Fault.TheVariants as fault
use Rattle.famlint_loads.specs.declared.product_line.ProductLine.{ProductLine}
use Rattle.famlint_requests.specs.declared.request.FamilyTask.TheVariants as task
use Rattle.famlint_requests.specs.declared.request.Request.{Request}
use Rattle.famlint_requests.specs.declared.request.Request.TheVariants as request
use Rattle.famlint_requests.specs.declared.request.Role.{Role}
use Rattle.famlint_loads.specs.Contents.{Contents}
use Rattle.famlint_core.specs.Answers.{Answers, AsksOfCertified, IsRead}
use Rattle.famlint_checks.specs.Checked.{AnswersCheck}
use Rattle.famlint_loads.specs.CertificateLoads.{ReadsCertificate, IsCheckRefused}
use Rattle.famlint_checks.specs.Checked.{IsCheckDone, verdict_status}
use Rattle.famlint_core.specs.Certified.{IsWrittenByCertify, IsYes}
use Rattle.famlint_loads.specs.CertificateLoads as checked
use Rattle.famlint_core.specs.Endings.{Streams, EndsWith, status_at}
use Rattle.famlint_families.specs.FamilyReports.{IsFamilyDone, IsLeafTree, IsAlarmTreeOf}
use Rattle.famlint_loads.specs.Loads.{IsModel}
use Rattle.famlint_loads.specs.ProductLines.{IsProductLine}
use Rattle.famlint_families.proofs.Told.{told_leads}
use Rattle.famlint_core.proofs.SameLines.{AreSameLines, are_same, over_line}
use Rattle.famlint_core.proofs.VariantOnce.{VariantLaws, no_line_refusal}

-- what laws of lower crates say
pub record CertifiedLaws : Type 0 where
  pub once : VariantLaws
  pub texts : TextsAreReadOnce
  pub files : FamiliesAreOfFiles
  pub written : WrittenAnalysesAreAccepted

-- ---- the features of a model that was read

pub record HaveEntries (features : List Feature) : Type 0 where
  outline : Outline
  few : length outline.entries ≤ 32
  sound : fault_of outline.entries ≡ None
  are : features ≡ map feature outline.entries

abbrev told_ok : stages.Told → Result stages.Told ModelFault
told_ok t = Ok t

abbrev told_err : ModelFault → Result stages.Told ModelFault
told_err f = Err f

same_told : (s t : stages.Told) → told_ok s ≡ told_ok t → s ≡ t
same_told s t e = let k : told_ok s ≡ told_ok t = e in cc

not_told : (f : ModelFault) (t : stages.Told) → told_err f ≡ told_ok t → ⊥
not_told f t e = let k : told_err f ≡ told_ok t = e in cc

by_fault : (o : Outline) (t : stages.Told) → length o.entries ≤ 32 → (f : Option ModelFault) → fault_of o.entries ≡ f → unless f (record { features = map feature o.entries; texts = o.texts }) ≡ Ok t → HaveEntries t.features
by_fault o t few None e h =
    let made : stages.Told = record { features = map feature o.entries; texts = o.texts } in
    record { outline = o; few = few; sound = e; are = ap (λ (x : stages.Told). x.features) (sym (same_told made t h)) }
by_fault o t few (Some f) e h = absurd (not_told f t h)

few_entries : (n : ℕ) (b : Bool) → (nat_lt 32 n || b) ≡ false → n ≤ 32
few_entries n b e = ltb-false 32 n (or_first (nat_lt 32 n) b e)
  where
    or_first : (x y : Bool) → (x || y) ≡ false → x ≡ false
    or_first true y e = e
    or_first false y e = refl

by_size : (o : Outline) (t : stages.Told) (b : Bool) → (nat_lt 32 (length o.entries) || nat_lt 256 (length o.texts)) ≡ b → ((if b then Err model_faults.TooMany else Ok o) >>= stages.told) ≡ Ok t → HaveEntries t.features
by_size o t true e h = absurd (not_told model_faults.TooMany t h)
by_size o t false e h = by_fault o t (few_entries (length o.entries) (nat_lt 256 (length o.texts)) e) (fault_of o.entries) refl h

by_outline : (r : Result Outline ModelFault) (t : stages.Told) → (r >>= told_from) ≡ Ok t → HaveEntries t.features
by_outline (Ok o) t h = by_size o t _ refl h
by_outline (Err f) t h = absurd (not_told f t h)

abbrev read_ok : Plain → Result Plain ModelFault
read_ok a = Ok a

abbrev read_err : ModelFault → Result Plain ModelFault
read_err f = Err f

same_read : (a b : Plain) → read_ok a ≡ read_ok b → a ≡ b
same_read a b e = let k : read_ok a ≡ read_ok b = e in cc

not_read : (f : ModelFault) (a : Plain) → read_err f ≡ read_ok a → ⊥
not_read f a e = let k : read_err f ≡ read_ok a = e in cc

ended_same : (model a : Plain) (end : Result Plain ModelFault) → Ends model end → end ≡ Ok a → model ≡ a
ended_same model a _ (models.too_many_tests more) e = absurd (not_read model_faults.TooManyTests a e)
ended_same model a _ (models.void few none) e = absurd (not_read model_faults.Void a e)
ended_same model a _ (models.accepted few values valid) e = same_read model a e

have_entries : (unknown : Unknown) (bytes : List ℕ) (a : Plain) (r : Result Plain ModelFault) → IsReadAs unknown bytes r → r ≡ Ok a → HaveEntries a.features
have_entries unknown bytes a _ (models.untold f e) h = absurd (not_read f a h)
have_entries unknown bytes a _ (models.refused t f e constraints) h = absurd (not_read f a h)
have_entries unknown bytes a _ (models.said model end says ends) h =
    subst (λ (x : Plain). HaveEntries x.features) (ended_same model a end ends h)
    (by_outline (stages.outlined bytes) (record { features = model.features; texts = says.texts }) says.told)

pub model_entries : (unknown : Unknown) (bytes : List ℕ) (model : Model) → IsModel unknown bytes (Ok model) → HaveEntries model.features
model_entries unknown bytes model h = have_entries unknown bytes (plain model) (Ok (plain model)) h refl

pub are_named : (features : List Feature) → HaveEntries features → AreNamed features
are_named features h = named_so h.outline.entries h.outline.entries h.outline.entries features refl refl (sym h.sound) h.are

pub are_ranges : (features : List Feature) → HaveEntries features → AreRanges features
are_ranges features h = (features_so h.outline.entries h.outline.entries h.outline.entries features refl refl (sym h.sound) h.are h.few).ranges

pub have_switches : (features : List Feature) → HaveEntries features → HaveSwitches features
have_switches features h = switches_so h.outline.entries features h.are

pub are_distinct : (features : List Feature) → HaveEntries features → AreDistinct features
are_distinct features h = distinct_so h.outline.entries h.outline.entries h.outline.entries features refl refl (sym h.sound) h.are

-- ---- the same reading and the same verdict

read_over : (k l : ProductLine) (bytes : List ℕ) (result : Result Certificate (Refusal CertificateFault)) → AreSameLines k l
    → reader.IsCertificateRead (piece_of k.model.features k.family.atoms) (whole k.family.code).names bytes result
    → reader.IsCertificateRead (piece_of l.model.features l.family.atoms) (whole l.family.code).names bytes result
read_over k l bytes result e h = over_line k l e (λ of names. reader.IsCertificateRead of names bytes result) h

module _ {X : Type 0} (a b : Model) (e : plain a ≡ plain b) (holds says : X → List ℤ → Bool) (same : (x : X) (values : List ℤ) → holds x values ≡ says x values) where
  always : (x : X) → HoldsAlways a (holds x) → HoldsAlways b (says x)
  always x h = λ values valid. sym (same x values) ∙ h values (subst (λ (m : Plain). IsValid m values) (sym e) valid)

  all_always : (xs : List X) → AllHold a holds xs → AllHold b says xs
  all_always xs h = All-weaker (λ x. HoldsAlways a (holds x)) (λ x. HoldsAlways b (says x)) always xs h

  first_failing : (xs : List X) (x : X) (values : List ℤ) → IsFirstFailing a holds xs x values → IsFirstFailing b says xs x values
  first_failing xs x values h = record {
    before = h.before;
    after = h.after;
    there = h.there;
    earlier = all_always h.before h.earlier;
    least = record {
      valid = subst (λ (m : Plain). IsValid m values) e h.least.valid;
      met = ap not (sym (same x values)) ∙ h.least.met;
      first = λ others valid met. h.least.first others (subst (λ (m : Plain). IsValid m others) (sym e) valid) (ap not (same x others) ∙ met);
    };
  }

module _ (M : LeafMeaning) (p : Whole) (cs ds : List Formula) (atoms : List Atom)
    (truths : (values : List ℤ) → truths_of cs (vector_at atoms values) ≡ truths_of ds (vector_at atoms values)) (c : Certificate) where
  same_inductive : (x : Place) (values : List ℤ) → is_inductive M p cs atoms c x values ≡ is_inductive M p ds atoms c x values
  same_inductive x values =
      ap (λ (t : List Bool). let q = projected_program t p in
      inductive_in M (turns_by M c.mode (given_heads M c.loops.items (vector_at atoms values) (M.start q.start)) q.body (enter (M.start q.start))) x) (truths values)

  same_covered : (at : Place × Kind) (values : List ℤ) → is_covered M p cs atoms c at values ≡ is_covered M p ds atoms c at values
  same_covered at values =
      ap (λ (t : List Bool). let q = projected_program t p in
      not (alarm_by M c.mode (given_heads M c.loops.items (vector_at atoms values) (M.start q.start)) q (M.start q.start) at.0 at.1)
      || is_listed c.alarms.items at (vector_at atoms values)) (truths values)

-- a verdict, over certificates of which the same is inductive and covered
module _ (M : LeafMeaning) (a b : Model) (e : plain a ≡ plain b) (p : Whole) (cs ds : List Formula) (atoms : List Atom) (c d : Certificate)
    (inductive : (x : Place) (values : List ℤ) → is_inductive M p cs atoms c x values ≡ is_inductive M p ds atoms d x values)
    (covered : (at : Place × Kind) (values : List ℤ) → is_covered M p cs atoms c at values ≡ is_covered M p ds atoms d at values) where
  pub same_verdict : (verdict : Verdict) → IsVerdict M a p cs atoms c verdict → IsVerdict M b p ds atoms d verdict
  same_verdict Yes h = (
    all_always a b e (is_inductive M p cs atoms c) (is_inductive M p ds atoms d) inductive _ h.0,
    all_always a b e (is_covered M p cs atoms c) (is_covered M p ds atoms d) covered _ h.1,
  )
  same_verdict (NotInductive place config) h = first_failing a b e (is_inductive M p cs atoms c) (is_inductive M p ds atoms d) inductive _ place config.values h
  same_verdict (Unlisted place kind config) h = (
    all_always a b e (is_inductive M p cs atoms c) (is_inductive M p ds atoms d) inductive _ h.0,
    first_failing a b e (is_covered M p cs atoms c) (is_covered M p ds atoms d) covered _ (place, kind) config.values h.1,
  )

pub verdict_over : (k l : ProductLine) (c : Certificate) (verdict : Verdict) → AreSameLines k l
    → IsVerdict intervals k.model (whole k.family.code) k.family.conditions k.family.atoms c verdict
    → IsVerdict intervals l.model (whole l.family.code) l.family.conditions l.family.atoms c verdict
verdict_over k l c verdict e h =
    let w : Whole = whole l.family.code in
    let truths : (values : List ℤ) → truths_of k.family.conditions (vector_at l.family.atoms values) ≡ truths_of l.family.conditions (vector_at l.family.atoms values) =
    λ values. e.truths (vector_at l.family.atoms values) in
    same_verdict intervals k.model l.model e.model w k.family.conditions l.family.conditions l.family.atoms c c
    (same_inductive intervals w k.family.conditions l.family.conditions l.family.atoms truths c) (same_covered intervals w k.family.conditions l.family.conditions l.family.atoms truths c) verdict
    (subst (λ (atoms : List Atom). IsVerdict intervals k.model w k.family.conditions atoms c verdict) e.atoms
    (subst (λ (p : Whole). IsVerdict intervals k.model p k.family.conditions k.family.atoms c verdict) e.code h))

-- ---- what is certified is written of an analysis

leaves_lead : (o : Options) (r : Regions) (l : ProductLine) (p : Formula) (trees : List LeafTree) → All (IsLeafTree intervals o r l p) trees
    → All (λ (t : LeafTree). IsTreeWhere (length l.family.atoms) (leaf_at intervals o (whole l.family.code) l.family.conditions p t.place) (formula p) t.tree) trees
leaves_lead o r l p trees all =
    All-weaker (IsLeafTree intervals o r l p) (λ (t : LeafTree). IsTreeWhere (length l.family.atoms) (leaf_at intervals o (whole l.family.code) l.family.conditions p t.place) (formula p) t.tree)
    (λ (t : LeafTree) is. told_leads r (length l.family.atoms) (leaf_at intervals o (whole l.family.code) l.family.conditions p t.place) (formula p) t.tree is) trees all

stops_lead : (o : Options) (r : Regions) (l : ProductLine) (p : Formula) (trees : List PlainAlarmTree) → All (IsAlarmTreeOf intervals o r l p) trees
    → All (λ (t : PlainAlarmTree). IsTreeWhere (length l.family.atoms) (stop_at intervals o (whole l.family.code) l.family.conditions p (t.place, t.kind)) (formula p) t.tree) trees
stops_lead o r l p trees all =
    All-weaker (IsAlarmTreeOf intervals o r l p) (λ (t : PlainAlarmTree). IsTreeWhere (length l.family.atoms) (stop_at intervals o (whole l.family.code) l.family.conditions p (t.place, t.kind)) (formula p) t.tree)
    (λ (t : PlainAlarmTree) is. told_leads r (length l.family.atoms) (stop_at intervals o (whole l.family.code) l.family.conditions p (t.place, t.kind)) (formula p) t.tree is) trees all

written_of : (o : Options) (r : Regions) (l : ProductLine) (done : Done) (bytes : List ℕ) → IsFamilyDone intervals o r task.Certify l done → bytes ≡ done.text
    → IsWrittenOf o l.model (whole l.family.code) l.family.conditions l.family.atoms bytes
written_of o r l done bytes (loops, alarms, a, b, e) text = record {
  regions = r;
  places = a.trees;
  stops = b.trees;
  invariants = loops;
  alarms = alarms;
  leaves_are = record { plausible = a.plausible; valid = valid_plausible l.model l.family.atoms (formula a.plausible) a.plausible_is; trees = record { keys = a.told.keys; are = leaves_lead o r l a.plausible a.trees a.told.are } };
  stops_are = record { plausible = b.plausible; valid = valid_plausible l.model l.family.atoms (formula b.plausible) b.plausible_is; trees = record { keys = b.told.keys; are = stops_lead o r l b.plausible b.trees b.told.are } };
  loops_are = a.tells;
  alarms_are = b.tells;
  text = text ∙ ap (λ (d : Done). d.text) e;
}

module _ (files : FamiliesAreOfFiles) (dialect : Dialect) (m f bytes : List ℕ) (h : IsWrittenByCertify dialect m f bytes) where
  abbrev l : ProductLine
  l = h.line

  names : AreNames l.model l.family.atoms (whole l.family.code).names
  names =
      let entries = model_entries dialect.unknown m l.model h.line_is.model in
      record {
        named = are_named l.model.features entries;
        distinct = are_distinct l.model.features entries;
        well = h.line_is.usable.atoms;
        lines = (files dialect l.model f l.family h.line_is.family).lines;
      }

  written : IsWrittenOf h.options l.model (whole l.family.code) l.family.conditions l.family.atoms bytes
  written = written_of h.options h.regions l h.done bytes h.done_is h.text

  spelled : WrittenAnalysesAreSpelled → (c : Certificate) × ReadsCertificate l bytes (Ok c)
  spelled law =
      law h.options l.model (whole l.family.code) l.family.conditions l.family.atoms bytes h.line_is.usable.program
      (files dialect l.model f l.family h.line_is.family).placed names written h.short

module _ (laws : CertifiedLaws) (dialect : Dialect) (m f bytes : List ℕ) (h : IsWrittenByCertify dialect m f bytes) where
  read_accepted : (k : ProductLine) (result : Result Certificate (Refusal CertificateFault)) → IsProductLine dialect m f k
      → reader.IsCertificateRead (piece_of k.model.features k.family.atoms) (whole k.family.code).names bytes result
      → IsReadAndAccepted h.line.model (whole h.line.family.code) h.line.family.conditions h.line.family.atoms result
  read_accepted k result line answers =
      let l : ProductLine = h.line in
      laws.written h.options l.model (whole l.family.code) l.family.conditions l.family.atoms bytes result h.line_is.usable.program
      (laws.files dialect l.model f l.family h.line_is.family).placed (names laws.files dialect m f bytes h) (written laws.files dialect m f bytes h) h.short
      (read_over k l bytes result (are_same laws.once laws.texts dialect m f k l line h.line_is) answers)

  status_yes : (k : ProductLine) (done : Done) → IsProductLine dialect m f k → IsCheckDone k bytes done → done.status ≡ 0
  status_yes k done line d =
      d.status
      ∙ ap verdict_status (read_accepted k (Ok d.certificate) line d.is d.verdict (verdict_over k h.line d.certificate d.verdict (are_same laws.once laws.texts dialect m f k h.line line h.line_is) d.verdict_is))

  not_refused : (k : ProductLine) (given : Fault) → IsProductLine dialect m f k → ReadsCertificate k bytes (Err given) → ⊥
  not_refused k (fault.Certificate given) line i = read_accepted k (Err (refusals.Fault given)) line i
  not_refused k (fault.Model given) line i = i
  not_refused k (fault.File code place example) line i = i
  not_refused k (fault.Settings given name) line i = i

  never : (given : Fault) → IsCheckRefused dialect m f bytes given → ⊥
  never given (checked.no_product_line i) = no_line_refusal laws.once dialect m f h.line given h.line_is i
  never given (checked.no_certificate k line i) = not_refused k given line i

pub certified_yes : CertifiedLaws → (dialect : Dialect) (told : Contents) (answer : Result Done Fault) → IsWrittenByCertify dialect told.model told.file told.certificate → AnswersCheck dialect told answer → IsYes answer
certified_yes laws dialect told (Ok done) h (k, line, d) = status_yes laws dialect told.model told.file told.certificate h k done line d
certified_yes laws dialect told (Err given) h i = never laws dialect told.model told.file told.certificate h given i

-- ---- the request

abbrev pub SaysYes : Type 0
SaysYes = (dialect : Dialect) (told : Contents) (answer : Result Done Fault) → IsWrittenByCertify dialect told.model told.file told.certificate → AnswersCheck dialect told answer → IsYes answer

asked_yes : SaysYes → (r : Request) (told : Contents) (answer : Result Done Fault) → AsksOfCertified r told → Answers r told answer → IsYes answer
asked_yes law (request.Check model file certificate dialect) told answer asked h = law dialect told answer asked h
asked_yes law (request.Plain file includes analysis) told answer asked h = absurd asked
asked_yes law (request.Variant model file dialect settings t) told answer asked h = absurd asked
asked_yes law (request.Family model file dialect analysis regions t) told answer asked h = absurd asked
asked_yes law (request.Page model file dialect analysis regions) told answer asked h = absurd asked
asked_yes law (request.Generate number analysis regions) told answer asked h = absurd asked
asked_yes law (request.Advice model file dialect settings analysis) told answer asked h = absurd asked
asked_yes law (request.Features model unknown) told answer asked h = absurd asked
asked_yes law (request.Guide guide) told answer asked h = absurd asked

yes_zero : (answer : Result Done Fault) → IsYes answer → status_at answer ≡ 0
yes_zero (Ok done) h = h
yes_zero (Err given) h = absurd h

by_yes : (status : ℕ) (answer : Result Done Fault) → IsYes answer → (status ≡ 6 → ⊥) → (status ≡ 7 → ⊥) → (status ≢ 6 → status ≢ 7 → status ≢ 8 → status ≡ status_at answer)
    → (status ≡ 0) ⊎ (status ≡ 8)
by_yes status answer is six seven exact = elim (nat_eq status 8) as (λ b. nat_eq status 8 ≡ b → (status ≡ 0) ⊎ (status ≡ 8)) [
  | true ↦ λ e. inr (eqb-true status 8 e)
  | false ↦ λ e. inl (exact six seven (eqb-false status 8 e) ∙ yes_zero answer is)
] refl

-- what is certified is answered yes
pub certified : SaysYes → (r : Request) (told : Contents) (role : Role) (status : ℕ) (before after : Streams) → AsksOfCertified r told
    → EndsWith (Answers r told) role status before after
    → (status ≡ 6 → ⊥) → (status ≡ 7 → ⊥) → (status ≡ 0) ⊎ (status ≡ 8)
certified law r told role status before after asked (inl read) six seven = absurd (six read)
certified law r told role status before after asked (inr (inl memory)) six seven = inr memory
certified law r told role status before after asked (inr (inr (answer, answers, ends))) six seven =
    by_yes status answer (asked_yes law r told answer asked answers) six seven ends.exact

-- what is certified is read
pub certified_read : FamiliesAreOfFiles → WrittenAnalysesAreSpelled → (r : Request) (told : Contents) → AsksOfCertified r told → IsRead r told
certified_read files law (request.Check model file certificate dialect) told h =
    let read = spelled files dialect told.model told.file told.certificate h law in
    (h.line, h.line_is, read.0, read.1)
certified_read files law (request.Plain file includes analysis) told asked = absurd asked
certified_read files law (request.Variant model file dialect settings t) told asked = absurd asked
certified_read files law (request.Family model file dialect analysis regions t) told asked = absurd asked
certified_read files law (request.Page model file dialect analysis regions) told asked = absurd asked
certified_read files law (request.Generate number analysis regions) told asked = absurd asked
certified_read files law (request.Advice model file dialect settings analysis) told asked = absurd asked
certified_read files law (request.Features model unknown) told asked = absurd asked
certified_read files law (request.Guide guide) told asked = absurd asked
