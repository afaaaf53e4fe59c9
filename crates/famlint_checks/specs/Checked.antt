-- What a product line and the bytes of a certificate are answered under `check`, and what is promised of it.
use Rattle.std.specs.Prelude.{ℕ, ℤ, ◌≡◌, Bool, true, false, List, ◌++◌, codes, length, Result, Ok, Err}
use Rattle.std.specs.List.{All}
use Rattle.std.specs.Fmt.{decimal}
use Rattle.fam_outer.specs.declared.dialect.Dialect.{Dialect}
use Rattle.fam_outer.specs.declared.faults.Place.{Place}
use Rattle.c_tree.specs.declared.tree.Kind.{Kind}
use Rattle.c_tree.specs.Run.{StoppedEnd, run_of}
use Rattle.c_tree.specs.Tree.{Whole}
use Rattle.c_tree.specs.Value.{IsInt}
use Rattle.c_tree.specs.View.{whole}
use Rattle.linear_atoms.specs.declared.atoms.Feature.{Feature}
use Rattle.cpp_conditions.specs.Numbering.{vector_at}
use Rattle.cpp_conditions.specs.Validity.{plain, IsValid}
use Rattle.lifted_analysis.specs.Lines.{given_heads}
use Rattle.lifted_analysis.specs.Turns.{turns_by, inductive_in}
use Rattle.plain_analysis.specs.Places.{alarm_by}
use Rattle.plain_analysis.specs.Statements.{Heads}
use Rattle.plain_analysis.specs.Ways.{enter}
use Rattle.interval_leaf.specs.Intervals.{intervals}
use Rattle.linear_atoms.specs.SettingTexts.{config_text}
use Rattle.alarm_report.specs.Texts.{place_text, kind_text}
use Rattle.certificate_format.specs.declared.certificates.Certificate.{Certificate}
use Rattle.invariant_certificate.specs.declared.verdicts.Verdict.{Verdict}
use Rattle.invariant_certificate.specs.declared.verdicts.Verdict.TheVariants.{Yes, NotInductive, Unlisted}
use Rattle.invariant_certificate.specs.Passes.{is_listed}
use Rattle.invariant_certificate.specs.Verdicts.{IsVerdict}
use Rattle.famlint_loads.specs.declared.fault.Done.{Done}
use Rattle.famlint_loads.specs.declared.fault.Fault.{Fault}
use Rattle.famlint_loads.specs.declared.product_line.ProductLine.{ProductLine}
use Rattle.famlint_loads.specs.ProductLines.{IsProductLine, IsProgramAt}
use Rattle.famlint_loads.specs.CertificateLoads.{ReadsCertificate, IsCheckRefused}
use Rattle.famlint_loads.specs.Contents.{Contents}

-- the line of a place at which a certificate does not hold: what is wrong there, and the configuration
abbrev pub no_text : List Feature → Place → List ℕ → List ℤ → List ℕ
no_text features place what values =
    codes "certificate: no: " ++ (place_text place ++ (codes " " ++ (what ++ (codes "; example " ++ (config_text features values ++ codes "\n")))))

-- the line of a verdict on a certificate with so many alarm lines
abbrev pub verdict_text : List Feature → ℕ → Verdict → List ℕ
verdict_text features alarms Yes = codes "certificate: yes, " ++ (decimal alarms ++ codes " alarms\n")
verdict_text features alarms (NotInductive place config) = no_text features place (codes "loop") config.values
verdict_text features alarms (Unlisted place kind config) = no_text features place (kind_text kind) config.values

-- 0 where it is yes
abbrev pub verdict_status : Verdict → ℕ
verdict_status Yes = 0
verdict_status (NotInductive place config) = 1
verdict_status (Unlisted place kind config) = 1

-- the verdict on the certificate that the bytes spell, by intervals
pub record IsCheckDone (l : ProductLine) (bytes : List ℕ) (done : Done) : Type 0 where
  pub certificate : Certificate
  pub is : ReadsCertificate l bytes (Ok certificate)
  pub verdict : Verdict
  pub verdict_is : IsVerdict intervals l.model (whole l.family.code) l.family.conditions l.family.atoms certificate verdict
  pub text : done.text ≡ verdict_text l.model.features (length certificate.alarms.items) verdict
  pub status : done.status ≡ verdict_status verdict

-- each stop of each run of the program p, on any inputs of `int` and after any number of steps, in the certificate's mode, is at a
-- place and of a kind for which an alarm line has a region that the configuration meets
abbrev pub ListsItsStops : ProductLine → Certificate → List ℤ → Whole → Type 0
ListsItsStops l c values p =
    (inputs : List ℤ) (n : ℕ) (place : Place) (kind : Kind) → All IsInt inputs → run_of p inputs n c.mode ≡ StoppedEnd place kind
    → is_listed c.alarms.items (place, kind) (vector_at l.family.atoms values) ≡ true

-- each valid configuration has a variant with a program, whose stops are listed
abbrev pub ListsAllStops : ProductLine → Certificate → Type 0
ListsAllStops l c = (values : List ℤ) → IsValid (plain l.model) values → (p : Whole) × IsProgramAt l values p × ListsItsStops l c values p

-- ---- what a pass over the program p finds that has at the head of each loop what the certificate says of it, by intervals

-- at each head what the first of the loop's lines says whose region holds at the vector
abbrev pub heads_at : Certificate → List Bool → Whole → Heads
heads_at c vector p = given_heads intervals c.loops.items vector (intervals.start p.start)

-- whether the head of the loop at the place holds what enters it, and what a lap makes of it
abbrev pub is_inductive_at : Certificate → List Bool → Whole → Place → Bool
is_inductive_at c vector p place = inductive_in intervals (turns_by intervals c.mode (heads_at c vector p) p.body (enter (intervals.start p.start))) place

-- whether the statement at the place may stop with the kind
abbrev pub may_stop_at : Certificate → List Bool → Whole → Place → Kind → Bool
may_stop_at c vector p place kind = alarm_by intervals c.mode (heads_at c vector p) p (intervals.start p.start) place kind

-- the configuration is valid, and in the program of its variant the loop at the place is not inductive
pub record HasLooseLoop (l : ProductLine) (c : Certificate) (place : Place) (values : List ℤ) : Type 0 where
  pub valid : IsValid (plain l.model) values
  pub program : Whole
  pub is : IsProgramAt l values program
  pub loose : is_inductive_at c (vector_at l.family.atoms values) program place ≡ false

-- the configuration is valid, and the program of its variant may stop at the place with the kind, which no line lists whose region the
-- configuration meets
pub record HasUnlistedStop (l : ProductLine) (c : Certificate) (place : Place) (kind : Kind) (values : List ℤ) : Type 0 where
  pub valid : IsValid (plain l.model) values
  pub program : Whole
  pub is : IsProgramAt l values program
  pub may_stop : may_stop_at c (vector_at l.family.atoms values) program place kind ≡ true
  pub unlisted : is_listed c.alarms.items (place, kind) (vector_at l.family.atoms values) ≡ false

-- ---- what is promised

-- yes: all stops are listed; no: the loop is not inductive at the configuration, or the stop may be met there and is not listed
abbrev pub IsVerdictFor : ProductLine → Certificate → Verdict → Type 0
IsVerdictFor l c Yes = ListsAllStops l c
IsVerdictFor l c (NotInductive place config) = HasLooseLoop l c place config.values
IsVerdictFor l c (Unlisted place kind config) = HasUnlistedStop l c place kind config.values

-- the bytes spell a certificate, and the text and the status are those of such a verdict on it; yes tells how many alarm lines it has
pub record IsCheckPromised (l : ProductLine) (bytes : List ℕ) (status : ℕ) (text : List ℕ) : Type 0 where
  pub certificate : Certificate
  pub is : ReadsCertificate l bytes (Ok certificate)
  pub verdict : Verdict
  pub holds : IsVerdictFor l certificate verdict
  pub text_is : text ≡ verdict_text l.model.features (length certificate.alarms.items) verdict
  pub status_is : status ≡ verdict_status verdict

-- what the check of the certificate comes to, or the refusal of the model, the file or the certificate
abbrev pub AnswersCheck : Dialect → Contents → Result Done Fault → Type 0
AnswersCheck dialect told (Ok done) = (l : ProductLine) × IsProductLine dialect told.model told.file l × IsCheckDone l told.certificate done
AnswersCheck dialect told (Err fault) = IsCheckRefused dialect told.model told.file told.certificate fault

-- what is promised of a check: see `Checked`
abbrev pub PromisedCheck : Dialect → Contents → ℕ → List ℕ → Type 0
PromisedCheck dialect told status text = (l : ProductLine) × IsProductLine dialect told.model told.file l × IsCheckPromised l told.certificate status text
