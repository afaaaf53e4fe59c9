-- What stands in the page `Theorem`, from what is promised.
use Rattle.std.proofs.Common.{◌≡◌, ◌⊎◌, ◌<◌, ℕ, ℤ, true, false, List, ◌++◌, codes, length, refl, sym, ap, subst, ◌∙◌, inl, inr}
use Rattle.std.specs.Prelude.{Option, Some, None, Ok}
use Rattle.std.specs.List.{All}
use Rattle.fam_outer.specs.declared.faults.Place.{Place}
use Rattle.linear_atoms.specs.declared.atoms.Atom.{Atom}
use Rattle.c_tree.specs.declared.tree.Kind.{Kind}
use Rattle.c_tree.specs.declared.tree.Mode.{Mode}
use Rattle.c_tree.specs.Run.{StoppedEnd, run_of}
use Rattle.c_tree.specs.Tree.{Whole}
use Rattle.c_tree.specs.Value.{IsInt}
use Rattle.c_tree.specs.View.{whole}
use Rattle.cpp_conditions.specs.Numbering.{vector_at}
use Rattle.cpp_conditions.specs.Validity.{Plain, plain, IsValid}
use Rattle.leaf_domain.specs.Leaves.{LeafMeaning}
use Rattle.plain_analysis.specs.Places.{alarm_of}
use Rattle.alarm_report.specs.declared.alarms.FamilyAlarm.{FamilyAlarm}
use Rattle.alarm_report.specs.Alarms.{TellsOnce}
use Rattle.alarm_report.specs.LeafTexts.{invariant_text}
use Rattle.alarm_report.specs.Texts.{alarm_text, kind_text}
use Rattle.alarm_page.specs.Pages.{Texts, texts_told}
use Rattle.certificate_format.specs.declared.certificates.Certificate.{Certificate}
use Rattle.certificate_format.specs.Certificates.{SpellsCertificate}
use Rattle.invariant_certificate.specs.declared.verdicts.Verdict.{Verdict}
use Rattle.invariant_certificate.specs.declared.verdicts.Verdict.TheVariants.{Yes, NotInductive, Unlisted}
use Rattle.invariant_certificate.specs.Passes.{is_listed}
use Rattle.configuration_advice.specs.declared.comparing.Advice as nearest
use Rattle.configuration_advice.specs.Nearest.{differing}
use Rattle.configuration_advice.specs.Texts.{advice_text}
use Rattle.famlint_requests.specs.declared.request.Analysis.{Analysis}
use Rattle.famlint_requests.specs.MadeBy.{made_by}
use Rattle.famlint_loads.specs.declared.product_line.ProductLine.{ProductLine}
use Rattle.famlint_loads.specs.declared.selected.Selected.{Selected}
use Rattle.famlint_loads.specs.CertificateLoads.{ReadsCertificate}
use Rattle.famlint_loads.specs.ProductLines.{IsProgramAt}
use Rattle.famlint_programs.specs.AnalysisOptions.{options_of}
use Rattle.famlint_programs.specs.ProgramAnswers.{meaning_of}
use Rattle.famlint_programs.specs.Report.{NeverStops}
use Rattle.famlint_checks.specs.Checked.{no_text, verdict_text, verdict_status, is_inductive_at, may_stop_at, HasLooseLoop, HasUnlistedStop, IsVerdictFor, ListsAllStops}
use Rattle.famlint_families.specs.Advised.{HasAlarmAt, HasNoAlarmAt, IsGood, IsGoodAdvice, advice_status}
use Rattle.famlint_core.specs.Theorem.{QuietFamiliesAreSafe, ReportsTellEachStop, FamiliesAreRead, PagesTellEachStop, QuietProgramsAreSafe, ProgramsAreRead, CheckedCertificatesListEachStop, RefusedCertificatesDoNotHold, AdviceIsSafe}
use Rattle.famlint_core.proofs.Answering.{OneReading, one_program as one_plain_program}
use Rattle.famlint_core.proofs.Certified.{CertifiedLaws}
use Rattle.famlint_core.proofs.SameLines.{AreSameLines, are_same, over_line}
use Rattle.famlint_core.proofs.VariantOnce.{VariantLaws, AreAlike, alike, program_moved, one_program, AreSame, same_selected}

-- ---- families

-- what is so of a program that the variant has by one reading of the files is so of each that it has by another
of_program : VariantLaws → (k l : ProductLine) → AreAlike k l → (IsSo : Whole → Type 0) (values : List ℤ) (p q : Whole) → IsProgramAt l values p → IsProgramAt k values q → IsSo q → IsSo p
of_program laws k l e IsSo values p q at there is =
    subst IsSo (one_program laws l values q p (program_moved k l e values q there) at) is

valid_in : (k l : ProductLine) → AreAlike k l → (values : List ℤ) → IsValid (plain l.model) values → IsValid (plain k.model) values
valid_in k l e values valid = subst (λ (m : Plain). IsValid m values) (sym e.model) valid

pub quiet_families : VariantLaws → QuietFamiliesAreSafe
quiet_families laws model file dialect analysis regions told text (k, line, report) l is values valid p at =
    let e : AreAlike k l = alike laws dialect told.model told.file k l line is in
    let variant = report.2.variants values (valid_in k l e values valid) in
    of_program laws k l e (NeverStops analysis.mode) values p variant.0 at variant.1 (variant.2.safe refl)

-- each stop of each run of the program is told by exactly one alarm
abbrev TellsStops : Mode → List FamilyAlarm → List ℤ → Whole → Type 0
TellsStops mode alarms values p = (inputs : List ℤ) (n : ℕ) (place : Place) (kind : Kind) → All IsInt inputs
    → run_of p inputs n mode ≡ StoppedEnd place kind → TellsOnce alarms place kind values

pub told_stops : VariantLaws → ReportsTellEachStop
told_stops laws model file dialect analysis regions told status text (k, line, report) l is =
    let e : AreAlike k l = alike laws dialect told.model told.file k l line is in (
      report.0,
      report.1 ∙ ap (λ (m : Plain). alarm_text regions m.features report.0) e.model,
      λ values valid p at.
          let variant = report.2.variants values (valid_in k l e values valid) in
          of_program laws k l e (TellsStops analysis.mode report.0 values) values p variant.0 at variant.1 variant.2.stops,
    )

pub read_families : FamiliesAreRead
read_families model file dialect analysis regions told status text (k, line, report) =
    (k, line, λ values valid. let variant = report.2.variants values valid in (variant.0, variant.1))

-- ---- pages

pub paged_stops : VariantLaws → PagesTellEachStop
paged_stops laws model file dialect analysis regions told status page (k, line, tells) l is =
    let e : AreAlike k l = alike laws dialect told.model told.file k l line is in
    let front : List ℕ = invariant_text regions (meaning_of analysis.domain) k.model.features (whole k.family.code).names tells.invariants in
    let texts : List ℕ → List ℕ → Texts = λ alarms f. record {
      alarms = alarms;
      report = front ++ alarms;
      model = told.model;
      file = f;
      made_by = made_by dialect analysis regions;
    } in (
      tells.alarms,
      front,
      tells.told ∙ (ap (λ f. texts_told (texts (alarm_text regions k.model.features tells.alarms) f)) line.text
          ∙ ap (λ (m : Plain). texts_told (texts (alarm_text regions m.features tells.alarms) told.file)) e.model),
      λ values valid p at.
          let variant = tells.good_alarms.variants values (valid_in k l e values valid) in
          of_program laws k l e (TellsStops analysis.mode tells.alarms values) values p variant.0 at variant.1 variant.2.stops,
    )

-- ---- one program

pub quiet_programs : OneReading → QuietProgramsAreSafe
quiet_programs once file includes analysis told text (q, read, report) p is =
    subst (NeverStops analysis.mode) (one_plain_program once includes told.file q p read is) (report.safe refl)

pub read_programs : ProgramsAreRead
read_programs file includes analysis told status text (q, read, report) = (q, read)

-- ---- certificates

-- a certificate is spelled over the features, the atoms and the names
read_over : (k l : ProductLine) (bytes : List ℕ) (c : Certificate) → AreSameLines k l → ReadsCertificate k bytes (Ok c) → ReadsCertificate l bytes (Ok c)
read_over k l bytes c e h = over_line k l e (λ of names. SpellsCertificate of names bytes c) h

-- each stop of each run of the program is listed
abbrev ListsStops : Certificate → List Atom → List ℤ → Whole → Type 0
ListsStops c atoms values p = (inputs : List ℤ) (n : ℕ) (place : Place) (kind : Kind) → All IsInt inputs
    → run_of p inputs n c.mode ≡ StoppedEnd place kind → is_listed c.alarms.items (place, kind) (vector_at atoms values) ≡ true

-- at status 0 the verdict is yes
listed_at_0 : (l : ProductLine) (c : Certificate) (verdict : Verdict) → 0 ≡ verdict_status verdict → IsVerdictFor l c verdict → ListsAllStops l c
listed_at_0 l c Yes zero h = h
listed_at_0 l c (NotInductive place config) zero h = cc
listed_at_0 l c (Unlisted place kind config) zero h = cc

pub listed_stops : CertifiedLaws → CheckedCertificatesListEachStop
listed_stops laws model file certificate dialect told text (k, line, promised) l is =
    let e : AreAlike k l = alike laws.once dialect told.model told.file k l line is in
    let same : AreSameLines k l = are_same laws.once laws.texts dialect told.model told.file k l line is in
    let c : Certificate = promised.certificate in
    let lists : ListsAllStops k c = listed_at_0 k c promised.verdict promised.status_is promised.holds in (
      c,
      read_over k l told.certificate c same promised.is,
      λ values valid p at.
          let variant = lists values (valid_in k l e values valid) in
          of_program laws.once k l e (ListsStops c l.family.atoms values) values p variant.0 at variant.1
          (subst (λ (atoms : List Atom). ListsStops c atoms values variant.0) same.atoms variant.2),
    )

loose_moved : (k l : ProductLine) (c : Certificate) → AreAlike k l → AreSameLines k l → (place : Place) (values : List ℤ) → HasLooseLoop k c place values → HasLooseLoop l c place values
loose_moved k l c e same place values h = record {
  valid = subst (λ (m : Plain). IsValid m values) e.model h.valid;
  program = h.program;
  is = program_moved k l e values h.program h.is;
  loose = subst (λ (atoms : List Atom). is_inductive_at c (vector_at atoms values) h.program place ≡ false) same.atoms h.loose;
}

unlisted_moved : (k l : ProductLine) (c : Certificate) → AreAlike k l → AreSameLines k l → (place : Place) (kind : Kind) (values : List ℤ)
    → HasUnlistedStop k c place kind values → HasUnlistedStop l c place kind values
unlisted_moved k l c e same place kind values h = record {
  valid = subst (λ (m : Plain). IsValid m values) e.model h.valid;
  program = h.program;
  is = program_moved k l e values h.program h.is;
  may_stop = subst (λ (atoms : List Atom). may_stop_at c (vector_at atoms values) h.program place kind ≡ true) same.atoms h.may_stop;
  unlisted = subst (λ (atoms : List Atom). is_listed c.alarms.items (place, kind) (vector_at atoms values) ≡ false) same.atoms h.unlisted;
}

-- a place and a configuration that are told, at which the certificate does not hold
abbrev FailsAt : ProductLine → Certificate → List ℕ → Type 0
FailsAt l c text = (place : Place) × (values : List ℤ)
    × (((text ≡ no_text l.model.features place (codes "loop") values) × HasLooseLoop l c place values)
    ⊎ ((kind : Kind) × (text ≡ no_text l.model.features place (kind_text kind) values) × HasUnlistedStop l c place kind values))

-- at status 1 the verdict is not yes
fails_at_1 : (k l : ProductLine) (c : Certificate) → AreAlike k l → AreSameLines k l → (alarms : ℕ) (text : List ℕ) (verdict : Verdict) → 1 ≡ verdict_status verdict
    → text ≡ verdict_text k.model.features alarms verdict → IsVerdictFor k c verdict → FailsAt l c text
fails_at_1 k l c e same alarms text Yes one text_is h = cc
fails_at_1 k l c e same alarms text (NotInductive place config) one text_is h = (
  place,
  config.values,
  inl (text_is ∙ ap (λ (m : Plain). no_text m.features place (codes "loop") config.values) e.model, loose_moved k l c e same place config.values h),
)
fails_at_1 k l c e same alarms text (Unlisted place kind config) one text_is h = (
  place,
  config.values,
  inr (kind, text_is ∙ ap (λ (m : Plain). no_text m.features place (kind_text kind) config.values) e.model, unlisted_moved k l c e same place kind config.values h),
)

pub failing_places : CertifiedLaws → RefusedCertificatesDoNotHold
failing_places laws model file certificate dialect told text (k, line, promised) l is =
    let e : AreAlike k l = alike laws.once dialect told.model told.file k l line is in
    let same : AreSameLines k l = are_same laws.once laws.texts dialect told.model told.file k l line is in
    let c : Certificate = promised.certificate in
    let at : FailsAt l c text = fails_at_1 k l c e same (length c.alarms.items) text promised.verdict promised.status_is promised.text_is promised.holds in
    (c, read_over k l told.certificate c same promised.is, at.0, at.1, at.2)

-- ---- advice

alarm_moved : (M : LeafMeaning) (analysis : Analysis) (k l : ProductLine) → AreAlike k l → (values : List ℤ)
    → HasAlarmAt M (options_of analysis (whole k.family.code)) k values → HasAlarmAt M (options_of analysis (whole l.family.code)) l values
alarm_moved M analysis k l e values h = record {
  program = h.program;
  is = program_moved k l e values h.program h.is;
  place = h.place;
  kind = h.kind;
  alarm = subst (λ (w : Whole). alarm_of M (options_of analysis w) h.program (M.start h.program.start) h.place h.kind ≡ true) e.code h.alarm;
}

no_alarm_moved : (M : LeafMeaning) (analysis : Analysis) (k l : ProductLine) → AreAlike k l → (values : List ℤ)
    → HasNoAlarmAt M (options_of analysis (whole k.family.code)) k values → HasNoAlarmAt M (options_of analysis (whole l.family.code)) l values
no_alarm_moved M analysis k l e values h = record {
  program = h.program;
  is = program_moved k l e values h.program h.is;
  none = subst (λ (w : Whole). (place : Place) (kind : Kind) → alarm_of M (options_of analysis w) h.program (M.start h.program.start) place kind ≡ false) e.code h.none;
}

good_moved : (M : LeafMeaning) (analysis : Analysis) (k l : ProductLine) → AreAlike k l → (given others : List ℤ) → given ≡ others → (advice : nearest.Advice)
    → IsGoodAdvice M (options_of analysis (whole k.family.code)) k given advice → IsGoodAdvice M (options_of analysis (whole l.family.code)) l others advice
good_moved M analysis k l e given others same advice h = record {
  valid = subst (λ (m : Plain). IsValid m advice.config.values) e.model h.valid;
  safe = record { program = h.safe.program; is = program_moved k l e advice.config.values h.safe.program h.safe.is; safe = h.safe.safe };
  quiet = no_alarm_moved M analysis k l e advice.config.values h.quiet;
  changed = subst (λ (v : List ℤ). advice.changed ≡ differing v advice.config.values) same h.changed;
  fewer = λ values valid less. alarm_moved M analysis k l e values
      (h.fewer values (valid_in k l e values valid) (subst (λ (v : List ℤ). differing v values < advice.changed) (sym same) less));
  before = λ values valid many earlier. alarm_moved M analysis k l e values
      (h.before values (valid_in k l e values valid) (subst (λ (v : List ℤ). differing v values ≡ advice.changed) (sym same) many) earlier);
}

-- no run of the program of advice stops, whichever reading of the files has it
advice_safe : VariantLaws → (M : LeafMeaning) (analysis : Analysis) (l : ProductLine) (given : List ℤ) (advice : nearest.Advice) → IsGoodAdvice M (options_of analysis (whole l.family.code)) l given advice
    → (p : Whole) → IsProgramAt l advice.config.values p → NeverStops analysis.mode p
advice_safe laws M analysis l given advice h p at =
    subst (NeverStops analysis.mode) (one_program laws l advice.config.values h.safe.program p h.safe.is at) h.safe.safe

-- what is said of the advice that a text tells
record IsSafeAdvice (analysis : Analysis) (s : Selected) (text : List ℕ) : Type 0 where
  advice : nearest.Advice
  text_is : text ≡ advice_text s.line.model.features (Some advice)
  good : IsGoodAdvice (meaning_of analysis.domain) (options_of analysis (whole s.line.family.code)) s.line s.config.values advice

-- an advice that is found
record HasAdvice (found : Option nearest.Advice) : Type 0 where
  advice : nearest.Advice
  is : found ≡ Some advice

has_advice : (found : Option nearest.Advice) → 0 ≡ advice_status found → HasAdvice found
has_advice (Some advice) zero = record { advice = advice; is = refl }
has_advice None zero = absurd cc

safe_advice : (analysis : Analysis) (t s : Selected) → AreSame t s → (text : List ℕ) (found : Option nearest.Advice) → 0 ≡ advice_status found
    → text ≡ advice_text t.line.model.features found
    → IsGood (meaning_of analysis.domain) (options_of analysis (whole t.line.family.code)) t.line t.config.values found → IsSafeAdvice analysis s text
safe_advice analysis t s e text found zero text_is good =
    let h = has_advice found zero in
    record {
      advice = h.advice;
      text_is = text_is ∙ ap (advice_text t.line.model.features) h.is ∙ ap (λ (m : Plain). advice_text m.features (Some h.advice)) e.line.model;
      good = good_moved (meaning_of analysis.domain) analysis t.line s.line e.line t.config.values s.config.values e.values h.advice
          (subst (IsGood (meaning_of analysis.domain) (options_of analysis (whole t.line.family.code)) t.line t.config.values) h.is good);
    }

pub advice_is_safe : VariantLaws → AdviceIsSafe
advice_is_safe laws model file dialect settings analysis told text (t, line, tells) s is =
    let e : AreSame t s = same_selected laws dialect told.model told.file settings t s line is in
    let safe : IsSafeAdvice analysis s text = safe_advice analysis t s e text tells.found tells.status_is tells.text_is tells.good in (
      safe.advice,
      safe.text_is,
      safe.good,
      advice_safe laws (meaning_of analysis.domain) analysis s.line s.config.values safe.advice safe.good,
    )
