-- What a user may believe of the output: the page to read first.
--
-- In one sentence: where a run of `analyse` ends with 0 or 1, each stop of each run of each valid configuration's variant is told by
-- exactly one line of the report, and with 0 no such run stops.
--
-- The clause `given` of the top call `famlint` says: where the words ask for this request, the run loaded each of its paths once, and for
-- whatever these hold that agrees with what the loads answered, a run that ends with status 0 or 1 has appended a text to the output, of which
-- what is `Promised` holds; `promise` says so of files whose contents are told beforehand. What follows from this in the words of runs stands
-- here; laws in src/laws.rt have these statements.
--
-- `IsProductLine dialect told.model told.file l` says that the bytes of MODEL and FILE spell the model and the family of l, `IsValid` that values
-- are a valid configuration of the model, and `IsProgramAt l values p` that the preprocessed text of its variant is read as the program p.
-- `run_of p inputs n mode` is where at most n steps of p lead from its start, and `StoppedEnd place kind` is a stop: an overflow, a zero
-- divisor or a failed assertion.
use Rattle.std.specs.Prelude.{ℕ, ℤ, ◌≡◌, ◌⊎◌, true, List, ◌++◌, codes, map, Some, Ok}
use Rattle.std.specs.List.{All}
use Rattle.fam_outer.specs.declared.dialect.Dialect.{Dialect}
use Rattle.fam_outer.specs.declared.dialect.Includes.{Includes}
use Rattle.fam_outer.specs.declared.dialect.Unknown.{Unknown}
use Rattle.fam_outer.specs.declared.faults.Place.{Place}
use Rattle.c_tree.specs.declared.tree.Kind.{Kind}
use Rattle.c_tree.specs.Run.{StoppedEnd, run_of}
use Rattle.c_tree.specs.Tree.{Whole}
use Rattle.c_tree.specs.Value.{IsInt}
use Rattle.c_tree.specs.View.{whole}
use Rattle.linear_atoms.specs.declared.atoms.Atom.{Atom}
use Rattle.linear_atoms.specs.declared.regions.Regions.{Regions}
use Rattle.cpp_conditions.specs.Grammar.{ReadsAs}
use Rattle.cpp_conditions.specs.Macros.{no_macros}
use Rattle.cpp_conditions.specs.Numbering.{vector_at}
use Rattle.cpp_conditions.specs.Propositions.{Proposition, true_at}
use Rattle.cpp_conditions.specs.Validity.{plain, IsValid}
use Rattle.atom_solver.specs.Solutions.{all_hold}
use Rattle.c_parser.specs.Reading.{IsPlainRead}
use Rattle.alarm_report.specs.declared.alarms.FamilyAlarm.{FamilyAlarm}
use Rattle.alarm_report.specs.Alarms.{TellsOnce}
use Rattle.alarm_report.specs.Texts.{alarm_text, kind_text, region_text}
use Rattle.alarm_page.specs.Pages.{told_by, texts_told}
use Rattle.certificate_format.specs.declared.certificates.Certificate.{Certificate}
use Rattle.invariant_certificate.specs.Passes.{is_listed}
use Rattle.configuration_advice.specs.declared.comparing.Advice as nearest
use Rattle.configuration_advice.specs.Texts.{advice_text}
use Rattle.region_laws.specs.Spelled.{SpellsRegion}
use Rattle.report_laws.specs.FamilyReports.{IsShown, shown_of}
use Rattle.famlint_requests.specs.declared.request.Analysis.{Analysis}
use Rattle.famlint_requests.specs.declared.request.FamilyTask.TheVariants.{Analyse}
use Rattle.famlint_requests.specs.declared.request.Request.TheVariants.{Plain, Family, Page, Check, Advice}
use Rattle.famlint_requests.specs.MadeBy.{made_by}
use Rattle.famlint_loads.specs.declared.product_line.ProductLine.{ProductLine}
use Rattle.famlint_loads.specs.declared.selected.Selected.{Selected}
use Rattle.famlint_loads.specs.CertificateLoads.{ReadsCertificate}
use Rattle.famlint_loads.specs.Contents.{Contents}
use Rattle.famlint_loads.specs.ProductLines.{IsProductLine, IsProgramAt}
use Rattle.famlint_loads.specs.Selected.{AreSelected}
use Rattle.famlint_programs.specs.AnalysisOptions.{options_of}
use Rattle.famlint_programs.specs.ProgramAnswers.{meaning_of}
use Rattle.famlint_families.specs.Advised.{IsGoodAdvice}
use Rattle.famlint_checks.specs.Checked.{no_text, HasLooseLoop, HasUnlistedStop}
use Rattle.famlint_core.specs.Answers.{Promised}

-- ---- families

-- Where `analyse` ends with status 0, no run of the variant of any valid configuration stops, on any inputs of `int`, after any number of
-- steps, and in the mode that the words ask for.
abbrev pub QuietFamiliesAreSafe : Type 0
QuietFamiliesAreSafe =
    (model file : List ℕ) (dialect : Dialect) (analysis : Analysis) (regions : Regions) (told : Contents) (text : List ℕ)
    → Promised (Family model file dialect analysis regions Analyse) told 0 text
    → (l : ProductLine) → IsProductLine dialect told.model told.file l
    → (values : List ℤ) → IsValid (plain l.model) values
    → (p : Whole) → IsProgramAt l values p
    → (inputs : List ℤ) (n : ℕ) (place : Place) (kind : Kind) → All IsInt inputs
    → run_of p inputs n analysis.mode ≡ StoppedEnd place kind → ⊥

-- Where it ends with status 0 or 1, the text is the report of alarms, and each stop of each such run is told by exactly one of its lines:
-- one with this place, this kind and a region that the configuration meets.
abbrev pub ReportsTellEachStop : Type 0
ReportsTellEachStop =
    (model file : List ℕ) (dialect : Dialect) (analysis : Analysis) (regions : Regions) (told : Contents) (status : ℕ) (text : List ℕ)
    → Promised (Family model file dialect analysis regions Analyse) told status text
    → (l : ProductLine) → IsProductLine dialect told.model told.file l
    → (alarms : List FamilyAlarm) × (text ≡ alarm_text regions l.model.features alarms)
    × ((values : List ℤ) → IsValid (plain l.model) values
    → (p : Whole) → IsProgramAt l values p
    → (inputs : List ℤ) (n : ℕ) (place : Place) (kind : Kind) → All IsInt inputs
    → run_of p inputs n analysis.mode ≡ StoppedEnd place kind → TellsOnce alarms place kind values)

-- There is what these two speak of: the bytes spell a model and a family, and the variant of each valid configuration is read as a program.
abbrev pub FamiliesAreRead : Type 0
FamiliesAreRead =
    (model file : List ℕ) (dialect : Dialect) (analysis : Analysis) (regions : Regions) (told : Contents) (status : ℕ) (text : List ℕ)
    → Promised (Family model file dialect analysis regions Analyse) told status text
    → (l : ProductLine) × IsProductLine dialect told.model told.file l
    × ((values : List ℤ) → IsValid (plain l.model) values → (p : Whole) × IsProgramAt l values p)

-- The text is the report of no other alarms: whichever alarms, at places of a file, with literals over the features and with an example in their
-- ranges, have a report with this text, they have the same places, kinds, literals and examples, in the same order.
abbrev pub ReportsTellOneList : Type 0
ReportsTellOneList =
    (model file : List ℕ) (dialect : Dialect) (analysis : Analysis) (regions : Regions) (told : Contents) (status : ℕ) (text : List ℕ)
    → Promised (Family model file dialect analysis regions Analyse) told status text
    → (l : ProductLine) → IsProductLine dialect told.model told.file l
    → (alarms : List FamilyAlarm) × (text ≡ alarm_text regions l.model.features alarms) × All (IsShown l.model.features) alarms
    × ((others : List FamilyAlarm) → All (IsShown l.model.features) others → text ≡ alarm_text regions l.model.features others
    → map shown_of others ≡ map shown_of alarms)

-- The region of such an alarm, as it is printed, spells an expression of C whose value is not 0 exactly where the region is met; and read as a
-- condition of MODEL it is true at exactly the valid configurations that meet it.
abbrev pub RegionsAreConditions : Type 0
RegionsAreConditions =
    (dialect : Dialect) (told : Contents) (l : ProductLine) → IsProductLine dialect told.model told.file l
    → (regions : Regions) (alarm : FamilyAlarm) → IsShown l.model.features alarm
    → SpellsRegion regions l.model.features alarm.region.literals
    × ((unknown : Unknown) (condition : Proposition Atom) (values : List ℤ)
    → ReadsAs (no_macros unknown) l.model.features (region_text regions l.model.features alarm.region.literals) (Ok condition)
    → IsValid (plain l.model) values → true_at values condition ≡ all_hold alarm.region.literals values)

-- ---- pages

-- Where `page` ends with status 0 or 1, what is read back of the page is MODEL and FILE byte for byte, the text of alarms by which each stop of
-- each such run is told by exactly one, and the report that holds it.
abbrev pub PagesTellEachStop : Type 0
PagesTellEachStop =
    (model file : List ℕ) (dialect : Dialect) (analysis : Analysis) (regions : Regions) (told : Contents) (status : ℕ) (page : List ℕ)
    → Promised (Page model file dialect analysis regions) told status page
    → (l : ProductLine) → IsProductLine dialect told.model told.file l
    → (alarms : List FamilyAlarm) × (front : List ℕ)
    × (told_by page ≡ texts_told (record {
      alarms = alarm_text regions l.model.features alarms;
      report = front ++ alarm_text regions l.model.features alarms;
      model = told.model;
      file = told.file;
      made_by = made_by dialect analysis regions;
    }))
    × ((values : List ℤ) → IsValid (plain l.model) values
    → (p : Whole) → IsProgramAt l values p
    → (inputs : List ℤ) (n : ℕ) (place : Place) (kind : Kind) → All IsInt inputs
    → run_of p inputs n analysis.mode ≡ StoppedEnd place kind → TellsOnce alarms place kind values)

-- ---- one program

-- Where `plain` ends with status 0, no run of the program that the file is read as stops.
abbrev pub QuietProgramsAreSafe : Type 0
QuietProgramsAreSafe =
    (file : List ℕ) (includes : Includes) (analysis : Analysis) (told : Contents) (text : List ℕ)
    → Promised (Plain file includes analysis) told 0 text
    → (p : Whole) → IsPlainRead includes told.file (Ok p)
    → (inputs : List ℤ) (n : ℕ) (place : Place) (kind : Kind) → All IsInt inputs
    → run_of p inputs n analysis.mode ≡ StoppedEnd place kind → ⊥

-- There is such a program.
abbrev pub ProgramsAreRead : Type 0
ProgramsAreRead =
    (file : List ℕ) (includes : Includes) (analysis : Analysis) (told : Contents) (status : ℕ) (text : List ℕ)
    → Promised (Plain file includes analysis) told status text → (p : Whole) × IsPlainRead includes told.file (Ok p)

-- ---- certificates and advice

-- Where `check` ends with status 0, the bytes of CERTIFICATE spell a certificate, and each stop of each run of the variant of each valid
-- configuration, in the certificate's mode, is at a place and of a kind for which one of its alarms has a region that the configuration
-- meets.
abbrev pub CheckedCertificatesListEachStop : Type 0
CheckedCertificatesListEachStop =
    (model file certificate : List ℕ) (dialect : Dialect) (told : Contents) (text : List ℕ)
    → Promised (Check model file certificate dialect) told 0 text
    → (l : ProductLine) → IsProductLine dialect told.model told.file l
    → (c : Certificate) × ReadsCertificate l told.certificate (Ok c)
    × ((values : List ℤ) → IsValid (plain l.model) values
    → (p : Whole) → IsProgramAt l values p
    → (inputs : List ℤ) (n : ℕ) (place : Place) (kind : Kind) → All IsInt inputs
    → run_of p inputs n c.mode ≡ StoppedEnd place kind → is_listed c.alarms.items (place, kind) (vector_at l.family.atoms values) ≡ true)

-- Where it ends with status 1, the text tells a place and a valid configuration at which the certificate does not hold: in the program of its
-- variant the loop there is not inductive, or may stop there with the kind that is told, which is not listed.
abbrev pub RefusedCertificatesDoNotHold : Type 0
RefusedCertificatesDoNotHold =
    (model file certificate : List ℕ) (dialect : Dialect) (told : Contents) (text : List ℕ)
    → Promised (Check model file certificate dialect) told 1 text
    → (l : ProductLine) → IsProductLine dialect told.model told.file l
    → (c : Certificate) × ReadsCertificate l told.certificate (Ok c)
    × (place : Place) × (values : List ℤ)
    × (((text ≡ no_text l.model.features place (codes "loop") values) × HasLooseLoop l c place values)
    ⊎ ((kind : Kind) × (text ≡ no_text l.model.features place (kind_text kind) values) × HasUnlistedStop l c place kind values))

-- Where `advise` ends with status 0, the text is that of a valid configuration, no run of its variant stops, and each valid configuration
-- that is nearer to the given one has an alarm (`IsGoodAdvice`).
abbrev pub AdviceIsSafe : Type 0
AdviceIsSafe =
    (model file : List ℕ) (dialect : Dialect) (settings : List (List ℕ)) (analysis : Analysis) (told : Contents) (text : List ℕ)
    → Promised (Advice model file dialect settings analysis) told 0 text
    → (s : Selected) → AreSelected dialect told.model told.file settings s
    → (advice : nearest.Advice) × (text ≡ advice_text s.line.model.features (Some advice))
    × IsGoodAdvice (meaning_of analysis.domain) (options_of analysis (whole s.line.family.code)) s.line s.config.values advice
    × ((p : Whole) → IsProgramAt s.line advice.config.values p
    → (inputs : List ℤ) (n : ℕ) (place : Place) (kind : Kind) → All IsInt inputs
    → run_of p inputs n analysis.mode ≡ StoppedEnd place kind → ⊥)
