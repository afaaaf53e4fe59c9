-- What the commands on all variants are answered, and what is promised of it: `analyse`, `invariants`, `certify`, `page`, `generate`, `advise`
-- and `features`.
use Rattle.std.specs.Prelude.{ℕ, ◌≡◌, List, Result, Ok, Err}
use Rattle.fam_outer.specs.declared.dialect.Dialect.{Dialect}
use Rattle.fam_outer.specs.declared.dialect.Unknown.{Unknown}
use Rattle.c_tree.specs.View.{whole}
use Rattle.linear_atoms.specs.declared.regions.Regions.{Regions}
use Rattle.cpp_conditions.specs.declared.models.Model.{Model}
use Rattle.famlint_requests.specs.declared.request.Analysis.{Analysis}
use Rattle.famlint_requests.specs.MadeBy.{made_by}
use Rattle.famlint_loads.specs.declared.fault.Done.{Done}
use Rattle.famlint_loads.specs.declared.fault.Fault.{Fault}
use Rattle.famlint_loads.specs.declared.product_line.ProductLine.{ProductLine}
use Rattle.famlint_requests.specs.declared.request.FamilyTask.{FamilyTask}
use Rattle.famlint_requests.specs.declared.request.FamilyTask.TheVariants.{Generate}
use Rattle.famlint_loads.specs.declared.selected.Selected.{Selected}
use Rattle.famlint_families.specs.Advised.{IsAdviseDone, TellsGoodAdvice}
use Rattle.famlint_families.specs.FamilyReports.{IsFamilyDone}
use Rattle.famlint_families.specs.FeatureUses.{AreUsesDone}
use Rattle.famlint_families.specs.Generated.{IsGeneratedLine}
use Rattle.famlint_families.specs.Headline.{PromisedOfAll}
use Rattle.famlint_families.specs.Pages.{IsPageDone, TellsOfAll}
use Rattle.famlint_loads.specs.Loads.{IsModel}
use Rattle.famlint_loads.specs.ProductLines.{IsProductLine, IsLineRefused}
use Rattle.famlint_loads.specs.Selected.{AreSelected, IsSelectionRefused}
use Rattle.famlint_programs.specs.AnalysisOptions.{options_of}
use Rattle.famlint_programs.specs.ProgramAnswers.{meaning_of}
use Rattle.famlint_loads.specs.Contents.{Contents}

-- what is asked of all variants at once, or the refusal of the model or the file
abbrev pub AnswersFamily : Dialect → Analysis → Regions → FamilyTask → Contents → Result Done Fault → Type 0
AnswersFamily dialect analysis r task told (Ok done) =
    (l : ProductLine) × IsProductLine dialect told.model told.file l × IsFamilyDone (meaning_of analysis.domain) (options_of analysis (whole l.family.code)) r task l done
AnswersFamily dialect analysis r task told (Err fault) = IsLineRefused dialect told.model told.file fault

-- the page, or the refusal of the model or the file
abbrev pub AnswersPage : Dialect → Analysis → Regions → Contents → Result Done Fault → Type 0
AnswersPage dialect analysis r told (Ok done) =
    (l : ProductLine) × IsProductLine dialect told.model told.file l
    × IsPageDone (meaning_of analysis.domain) (options_of analysis (whole l.family.code)) r l told.model (made_by dialect analysis r) done
AnswersPage dialect analysis r told (Err fault) = IsLineRefused dialect told.model told.file fault

-- the sizes and the alarms of the family that is generated for a number
abbrev pub IsGenerateDone : Analysis → Regions → ℕ → Done → Type 0
IsGenerateDone analysis r number done =
    (l : ProductLine) × IsGeneratedLine number l × IsFamilyDone (meaning_of analysis.domain) (options_of analysis (whole l.family.code)) r Generate l done

-- no fault answers it: each generated family is accepted
abbrev pub AnswersGenerate : Analysis → Regions → ℕ → Result Done Fault → Type 0
AnswersGenerate analysis r number (Ok done) = IsGenerateDone analysis r number done
AnswersGenerate analysis r number (Err fault) = ⊥

-- the advice for the configuration that settings give, or the refusal of the model, the file or the settings
abbrev pub AnswersAdvice : Dialect → Analysis → List (List ℕ) → Contents → Result Done Fault → Type 0
AnswersAdvice dialect analysis settings told (Ok done) =
    (s : Selected) × AreSelected dialect told.model told.file settings s × IsAdviseDone (meaning_of analysis.domain) (options_of analysis (whole s.line.family.code)) s.line s.config.values done
AnswersAdvice dialect analysis settings told (Err fault) = IsSelectionRefused dialect told.model told.file settings fault

-- what the model leaves open, or its refusal
abbrev pub AnswersFeatures : Unknown → List ℕ → Result Done Fault → Type 0
AnswersFeatures unknown bytes (Ok done) = (model : Model) × IsModel unknown bytes (Ok model) × AreUsesDone model done
AnswersFeatures unknown bytes (Err fault) = IsModel unknown bytes (Err fault)

-- what is promised of the report on all variants: see `Headline`
abbrev pub PromisedFamily : Dialect → Analysis → Regions → FamilyTask → Contents → ℕ → List ℕ → Type 0
PromisedFamily dialect analysis r task told status text =
    (l : ProductLine) × IsProductLine dialect told.model told.file l × PromisedOfAll (meaning_of analysis.domain) (options_of analysis (whole l.family.code)) r task l status text

-- what is promised of a page: it tells MODEL and FILE byte for byte, and the report on them
abbrev pub PromisedPage : Dialect → Analysis → Regions → Contents → ℕ → List ℕ → Type 0
PromisedPage dialect analysis r told status page =
    (l : ProductLine) × IsProductLine dialect told.model told.file l
    × TellsOfAll (meaning_of analysis.domain) (options_of analysis (whole l.family.code)) r l told.model (made_by dialect analysis r) status page

-- what is promised of the report on a generated family: as of each family
abbrev pub PromisedGenerate : Analysis → Regions → ℕ → ℕ → List ℕ → Type 0
PromisedGenerate analysis r number status text =
    (l : ProductLine) × IsGeneratedLine number l × PromisedOfAll (meaning_of analysis.domain) (options_of analysis (whole l.family.code)) r Generate l status text

-- what is promised of advice: see `Advised`
abbrev pub PromisedAdvice : Dialect → Analysis → List (List ℕ) → Contents → ℕ → List ℕ → Type 0
PromisedAdvice dialect analysis settings told status text =
    (s : Selected) × AreSelected dialect told.model told.file settings s × TellsGoodAdvice (meaning_of analysis.domain) (options_of analysis (whole s.line.family.code)) s.line s.config.values status text

-- of what a model leaves open no more is promised than its answer
abbrev pub PromisedFeatures : ℕ → List ℕ → Type 0
PromisedFeatures status text = status ≡ 0
