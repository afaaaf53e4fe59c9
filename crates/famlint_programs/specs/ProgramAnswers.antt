-- What the commands on one program are answered, and what is promised of it: `plain`, `project`, `variant` and `run`.
use Rattle.std.specs.Prelude.{ℕ, ℤ, ◌≡◌, List, Option, Result, Ok, Err}
use Rattle.fam_outer.specs.declared.dialect.Dialect.{Dialect}
use Rattle.fam_outer.specs.declared.dialect.Includes.{Includes}
use Rattle.c_tree.specs.Run.{run_of}
use Rattle.c_tree.specs.Tree.{Whole}
use Rattle.c_tree.specs.View.{whole}
use Rattle.c_tree.specs.declared.tree.Mode.{Mode}
use Rattle.cpp_conditions.specs.Validity.{plain}
use Rattle.c_parser.specs.Reading.{IsPlainRead}
use Rattle.variant_projector.specs.Variant.{IsVariant}
use Rattle.interval_leaf.specs.Intervals.{intervals}
use Rattle.leaf_domain.specs.Leaves.{LeafMeaning}
use Rattle.octagon_leaf.specs.Octagons.{octagons}
use Rattle.product_leaf.specs.StrideLeaves.{strides}
use Rattle.sharp_leaf.specs.SharpLeaves.{sharp}
use Rattle.famlint_requests.specs.declared.request.Analysis.{Analysis}
use Rattle.command_words.specs.declared.settings.Domain.{Domain}
use Rattle.command_words.specs.declared.settings.Domain.TheVariants as domains
use Rattle.famlint_loads.specs.declared.fault.Done.{Done}
use Rattle.famlint_loads.specs.declared.fault.Fault.{Fault}
use Rattle.famlint_loads.specs.declared.fault.Fault.TheVariants as fault
use Rattle.famlint_requests.specs.declared.request.VariantTask.{VariantTask}
use Rattle.famlint_requests.specs.declared.request.VariantTask.TheVariants.{Project, Variant, Run}
use Rattle.famlint_loads.specs.declared.selected.Selected.{Selected}
use Rattle.famlint_programs.specs.AnalysisOptions.{options_of}
use Rattle.famlint_programs.specs.Report.{report_done, IsReport}
use Rattle.famlint_programs.specs.RunText.{run_text}
use Rattle.famlint_loads.specs.Selected.{AreSelected, IsSelectionRefused, IsProgramOf}
use Rattle.famlint_loads.specs.Contents.{Contents}

-- what the leaves of a domain mean
abbrev pub meaning_of : Domain → LeafMeaning
meaning_of domains.Interval = intervals
meaning_of domains.Octagon = octagons
meaning_of domains.Stride = strides
meaning_of domains.Sharp = sharp

-- the report on a program of a file, over leaves of this domain
abbrev pub program_done : Analysis → Whole → Whole → Done
program_done analysis file p = report_done (meaning_of analysis.domain) (options_of analysis file) p

-- the report on a program that is the whole file
abbrev pub plain_done : Analysis → Whole → Done
plain_done analysis p = program_done analysis p p

-- the whole file of a variant
abbrev pub file_of : Selected → Whole
file_of s = whole s.line.family.code

-- the report on the program that the bytes spell, or their refusal
abbrev pub AnswersPlain : Includes → Analysis → List ℕ → Result Done Fault → Type 0
AnswersPlain includes analysis bytes (Ok done) = (p : Whole) × IsPlainRead includes bytes (Ok p) × (done ≡ plain_done analysis p)
AnswersPlain includes analysis bytes (Err (fault.File code place example)) = IsPlainRead includes bytes (Err (code, place)) × (example ≡ Option.None)
AnswersPlain includes analysis bytes (Err other) = ⊥

-- how a run stands, as a text
abbrev pub run_done : List ℤ → ℕ → Mode → Whole → Done
run_done inputs steps mode p = record { text = run_text p.names (run_of p inputs steps mode); status = 0 }

-- what is asked of a variant is this
abbrev pub IsDone : VariantTask → Selected → Done → Type 0
IsDone Project s done = IsVariant s.line.dialect (plain s.line.model) s.config.values s.line.text done.text × (done.status ≡ 0)
IsDone (Variant analysis) s done = (p : Whole) × IsProgramOf s p × (done ≡ program_done analysis (file_of s) p)
IsDone (Run steps inputs mode) s done = (p : Whole) × IsProgramOf s p × (done ≡ run_done inputs steps mode p)

-- what is asked of the variant that settings select, or the refusal of the model, the file or the settings
abbrev pub AnswersVariant : Dialect → VariantTask → List (List ℕ) → Contents → Result Done Fault → Type 0
AnswersVariant dialect task settings told (Ok done) = (s : Selected) × AreSelected dialect told.model told.file settings s × IsDone task s done
AnswersVariant dialect task settings told (Err fault) = IsSelectionRefused dialect told.model told.file settings fault

-- the report is one on the program that the bytes spell
abbrev pub PromisedPlain : Includes → Analysis → List ℕ → ℕ → List ℕ → Type 0
PromisedPlain includes analysis bytes status text = (p : Whole) × IsPlainRead includes bytes (Ok p) × IsReport (meaning_of analysis.domain) (options_of analysis p) p status text

-- a report is one on the program of the variant; a text or a run is exactly its answer, and no more is promised of it
abbrev pub PromisedOf : VariantTask → Selected → ℕ → List ℕ → Type 0
PromisedOf Project s status text = status ≡ 0
PromisedOf (Variant analysis) s status text =
    (p : Whole) × IsProgramOf s p × IsReport (meaning_of analysis.domain) (options_of analysis (file_of s)) p status text
PromisedOf (Run steps inputs mode) s status text = status ≡ 0

abbrev pub PromisedVariant : Dialect → VariantTask → List (List ℕ) → Contents → ℕ → List ℕ → Type 0
PromisedVariant dialect task settings told status text = (s : Selected) × AreSelected dialect told.model told.file settings s × PromisedOf task s status text
