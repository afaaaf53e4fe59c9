-- A page is answered once, and so is what is asked of a generated family.
use Rattle.std.proofs.Common.{◌≡◌, ℕ, List, ◌++◌, map, Result, Ok, Err, sym, ap, ap₂, subst, ◌∙◌}
use Rattle.fam_outer.specs.declared.dialect.Dialect.{Dialect}
use Rattle.c_tree.specs.Tree.{Whole}
use Rattle.c_tree.specs.View.{whole}
use Rattle.linear_atoms.specs.declared.atoms.Feature.{Feature}
use Rattle.linear_atoms.specs.declared.regions.Regions.{Regions}
use Rattle.cpp_conditions.specs.declared.conditions.Condition.{Condition}
use Rattle.cpp_conditions.specs.declared.models.Model.{Model}
use Rattle.cpp_conditions.specs.Validity.{Plain, plain}
use Rattle.cpp_conditions.specs.View.{proposition}
use Rattle.leaf_domain.specs.Leaves.{LeafMeaning}
use Rattle.plain_analysis.specs.declared.options.Options.{Options}
use Rattle.alarm_page.specs.Pages.{page_of}
use Rattle.alarm_report.specs.declared.alarms.FamilyAlarm.{FamilyAlarm}
use Rattle.alarm_report.specs.Invariants.{Invariant}
use Rattle.alarm_report.specs.LeafTexts.{invariant_text}
use Rattle.alarm_report.specs.Texts.{alarm_text}
use Rattle.c_parser.specs.FamilyReading.{IsFamilyOf}
use Rattle.c_parser.proofs.KeptTexts.{TextsAreReadOnce}
use Rattle.family_generator.specs.Features.{generated_dialect}
use Rattle.family_generator.specs.Texts.{generated_text}
use Rattle.famlint_requests.specs.declared.request.Analysis.{Analysis}
use Rattle.famlint_requests.specs.declared.request.FamilyTask.TheVariants.{Generate}
use Rattle.famlint_requests.specs.MadeBy.{made_by}
use Rattle.famlint_loads.specs.declared.fault.Done.{Done}
use Rattle.famlint_loads.specs.declared.fault.Fault.{Fault}
use Rattle.famlint_loads.specs.declared.product_line.ProductLine.{ProductLine}
use Rattle.famlint_loads.specs.Contents.{Contents}
use Rattle.famlint_programs.specs.AnalysisOptions.{options_of}
use Rattle.famlint_programs.specs.ProgramAnswers.{meaning_of}
use Rattle.famlint_families.specs.FamilyAnswers.{AnswersPage, AnswersGenerate}
use Rattle.famlint_families.specs.FamilyReports.{family_status}
use Rattle.famlint_families.specs.Generated.{IsGeneratedLine}
use Rattle.famlint_families.specs.Pages.{IsPageDone}
use Rattle.famlint_core.proofs.FamilyOnce.{same_alarms, same_invariants, same_family_done}
use Rattle.famlint_core.proofs.SameLines.{AreSameLines, are_same, are_same_by}
use Rattle.famlint_core.proofs.VariantOnce.{VariantLaws, no_line_refusal, same_line_refusal}

-- ---- pages

module _ (M : LeafMeaning) (r : Regions) (model made : List ℕ) where
  -- the page over features and names, with this as FILE
  abbrev paged : Plain → Whole → List ℕ → List Invariant → List FamilyAlarm → Done
  paged m w file invariants alarms = record {
    text = page_of (record {
      alarms = alarm_text r m.features alarms;
      report = invariant_text r M m.features w.names invariants ++ alarm_text r m.features alarms;
      model = model;
      file = file;
      made_by = made;
    });
    status = family_status alarms;
  }

  same_page : (o : Options) (k l : ProductLine) → AreSameLines k l → (x y : Done) → IsPageDone M o r k model made x → IsPageDone M o r l model made y → x ≡ y
  same_page o k l e x y (invariants, alarms, g, h, is) (more, others, j, i, other) =
      is
      ∙ ap₂ (λ (m : Plain) (w : Whole). paged m w k.text invariants alarms) e.model e.code
      ∙ ap (λ (file : List ℕ). paged (plain l.model) (whole l.family.code) file invariants alarms) e.text
      ∙ ap₂ (λ (xs : List Invariant) (ys : List FamilyAlarm). paged (plain l.model) (whole l.family.code) l.text xs ys)
      (same_invariants M o r k l e invariants more g j) (same_alarms M o r k l e alarms others h i)
      ∙ sym other

  -- the options of an analysis, of the programs of the same file
  same_page_done : (analysis : Analysis) (k l : ProductLine) → AreSameLines k l → (x y : Done)
      → IsPageDone M (options_of analysis (whole k.family.code)) r k model made x → IsPageDone M (options_of analysis (whole l.family.code)) r l model made y → x ≡ y
  same_page_done analysis k l e x y h i =
      same_page (options_of analysis (whole l.family.code)) k l e x y (subst (λ (w : Whole). IsPageDone M (options_of analysis w) r k model made x) e.code h) i

pub one_page : VariantLaws → TextsAreReadOnce → (dialect : Dialect) (analysis : Analysis) (r : Regions) (told : Contents) (a b : Result Done Fault)
    → AnswersPage dialect analysis r told a → AnswersPage dialect analysis r told b → a ≡ b
one_page laws once dialect analysis r told (Ok x) (Ok y) (k, h, i) (l, j, q) =
    ap (λ (d : Done). Ok d)
    (same_page_done (meaning_of analysis.domain) r told.model (made_by dialect analysis r) analysis k l (are_same laws once dialect told.model told.file k l h j) x y i q)
one_page laws once dialect analysis r told (Ok x) (Err g) (k, h, i) j = absurd (no_line_refusal laws dialect told.model told.file k g h j)
one_page laws once dialect analysis r told (Err g) (Ok x) h (k, j, i) = absurd (no_line_refusal laws dialect told.model told.file k g j h)
one_page laws once dialect analysis r told (Err f) (Err g) h k = ap (λ (x : Fault). Err x) (same_line_refusal laws dialect told.model told.file f g h k)

-- ---- generated families

same_model : (a b : Model) → a.features ≡ b.features → a.constraints ≡ b.constraints → plain a ≡ plain b
same_model a b f c =
    ap₂ (λ (features : List Feature) (constraints : List Condition). let m : Plain = record { features = features; constraints = map proposition constraints } in m) f c

-- the family of a generated line is one that the generated text is read as
of_generated : (number : ℕ) (l : ProductLine) → IsGeneratedLine number l → IsFamilyOf generated_dialect l.model (generated_text number) l.family
of_generated number l h =
    subst (λ (text : List ℕ). IsFamilyOf generated_dialect l.model text l.family) h.text (subst (λ (dialect : Dialect). IsFamilyOf dialect l.model l.text l.family) h.dialect h.family)

same_generated : VariantLaws → TextsAreReadOnce → (number : ℕ) (k l : ProductLine) → IsGeneratedLine number k → IsGeneratedLine number l → AreSameLines k l
same_generated laws once number k l h i =
    are_same_by laws once generated_dialect (generated_text number) k l
    (same_model k.model l.model (h.features ∙ sym i.features) (h.constraints ∙ sym i.constraints)) (h.text ∙ sym i.text) (of_generated number k h) (of_generated number l i)

pub one_generated : VariantLaws → TextsAreReadOnce → (analysis : Analysis) (r : Regions) (number : ℕ) (a b : Result Done Fault)
    → AnswersGenerate analysis r number a → AnswersGenerate analysis r number b → a ≡ b
one_generated laws once analysis r number (Ok x) (Ok y) (k, h, i) (l, j, q) =
    ap (λ (d : Done). Ok d) (same_family_done (meaning_of analysis.domain) analysis r Generate k l (same_generated laws once number k l h j) x y i q)
one_generated laws once analysis r number (Ok x) (Err g) h i = absurd i
one_generated laws once analysis r number (Err g) b h i = absurd h
