-- What is asked of a variant is answered.
use Rattle.std.proofs.Common.{◌≡◌, ℕ, ℤ, Bool, true, false, List, Option, Result, Ok, Err, refl, sym, subst}
use Rattle.std.specs.Prelude.{if◌then◌else◌}
use Rattle.fam_outer.specs.declared.dialect.Dialect.{Dialect}
use Rattle.fam_outer.specs.declared.dialect.Includes.TheVariants.{Assert}
use Rattle.cpp_conditions.specs.declared.models.Model.{Model}
use Rattle.cpp_conditions.specs.Validity.{plain, is_valid, IsValid}
use Rattle.cpp_lines.specs.Preprocessed.{preprocessed}
use Rattle.cpp_lines.specs.Sections.{truths_at}
use Rattle.feature_model.specs.declared.faults.ConfigFault.{ConfigFault}
use Rattle.feature_model.specs.declared.faults.ConfigFault.TheVariants as settings_faults
use Rattle.feature_model.specs.Settings.{checked, config_of, settled, steps, unset}
use Rattle.feature_model.specs.Stages.{◌>>=◌}
use Rattle.variant_projector.specs.Variant.{IsVariant}
use Rattle.c_parser.specs.FamilyReading.{IsFamilyOf}
use Rattle.c_parser.specs.Variants.{projection, truths_in}
use Rattle.c_tree.specs.Tree.{Whole}
use Rattle.famlint_loads.specs.declared.fault.Done.{Done}
use Rattle.famlint_loads.specs.declared.fault.Fault.{Fault}
use Rattle.famlint_loads.specs.declared.product_line.ProductLine.{ProductLine}
use Rattle.famlint_loads.specs.declared.selected.Selected.{Selected}
use Rattle.famlint_loads.specs.Contents.{Contents}
use Rattle.famlint_loads.specs.Faults.{fault_of_settings}
use Rattle.famlint_loads.specs.ProductLines.{IsProductLine, IsProgramAt}
use Rattle.famlint_loads.specs.Selected as selected
use Rattle.famlint_loads.specs.Selected.{AreSelected, IsSelectionRefused}
use Rattle.famlint_requests.specs.declared.request.VariantTask.{VariantTask}
use Rattle.famlint_requests.specs.declared.request.VariantTask.TheVariants.{Project, Variant, Run}
use Rattle.famlint_programs.specs.ProgramAnswers.{AnswersVariant, IsDone, file_of, program_done, run_done}
use Rattle.famlint_core.proofs.SomeLine.{AnswerLaws, LineAnswer, line, no_line, some_line}

-- ---- settings

abbrev values_ok : List ℤ → Result (List ℤ) ConfigFault
values_ok v = Ok v

valid_by : (m : Model) (w v : List ℤ) (b : Bool) → is_valid (plain m) w ≡ b → (if b then values_ok w else Err settings_faults.NotValid) ≡ values_ok v → IsValid (plain m) v
valid_by m w v true valid e = let same : w ≡ v = cc in subst (λ (x : List ℤ). IsValid (plain m) x) same valid
valid_by m w v false valid e = absurd cc

checked_valid : (m : Model) (v : List ℤ) (r : Result (List ℤ) ConfigFault) → (r >>= checked m) ≡ values_ok v → IsValid (plain m) v
checked_valid m v (Ok w) e = valid_by m w v (is_valid (plain m) w) refl e
checked_valid m v (Err given) e = absurd cc

-- a configuration that settings give is valid
pub config_valid : (m : Model) (words : List (List ℕ)) (v : List ℤ) → config_of m words ≡ Ok v → IsValid (plain m) v
config_valid m words v e = by (steps m.features 1 (unset m.features) words) e
  where
    by : (r : Result (List (Option ℤ)) ConfigFault) → (r >>= λ slots. settled 1 m.features slots >>= checked m) ≡ values_ok v → IsValid (plain m) v
    by (Ok slots) e = checked_valid m v (settled 1 m.features slots) e
    by (Err given) e = absurd cc

-- the variant that settings select, whose configuration is valid, or the refusal
pub data SelectionAnswer (dialect : Dialect) (m f : List ℕ) (words : List (List ℕ)) : Type 0 where
  some : (s : Selected) → AreSelected dialect m f words s → IsValid (plain s.line.model) s.config.values → SelectionAnswer dialect m f words
  none : (given : Fault) → IsSelectionRefused dialect m f words given → SelectionAnswer dialect m f words

selection_by : (dialect : Dialect) (m f : List ℕ) (words : List (List ℕ)) (l : ProductLine) → IsProductLine dialect m f l → (r : Result (List ℤ) ConfigFault) → config_of l.model words ≡ r → SelectionAnswer dialect m f words
selection_by dialect m f words l h (Ok v) e = some (record { line = l; config = record { values = v } }) (record { line = h; config = e }) (config_valid l.model words v e)
selection_by dialect m f words l h (Err given) e = none (fault_of_settings l.model.features given) (selected.no_settings l h (given, e, refl))

selection_of_line : (dialect : Dialect) (m f : List ℕ) (words : List (List ℕ)) → LineAnswer dialect m f → SelectionAnswer dialect m f words
selection_of_line dialect m f words (line l h) = selection_by dialect m f words l h (config_of l.model words) refl
selection_of_line dialect m f words (no_line given h) = none given (selected.no_line h)

pub some_selection : AnswerLaws → (dialect : Dialect) (m f : List ℕ) (words : List (List ℕ)) → SelectionAnswer dialect m f words
some_selection laws dialect m f words = selection_of_line dialect m f words (some_line laws dialect m f)

-- ---- variants

-- the text of the variant of each configuration
some_text : (dialect : Dialect) (m f : List ℕ) (l : ProductLine) → IsProductLine dialect m f l → (values : List ℤ) → (text : List ℕ) × IsVariant l.dialect (plain l.model) values l.text text
some_text dialect m f l h values =
    let family : IsFamilyOf l.dialect l.model l.text l.family =
    subst (λ (d : Dialect). IsFamilyOf d l.model l.text l.family) (sym h.dialect_is) (subst (λ (b : List ℕ). IsFamilyOf dialect l.model b l.family) (sym h.text) h.family) in
    let are = family.accepted.are in
    let items = are.items in
    let text = preprocessed (truths_at values are.told.conditions) are.told.lines items.blanked in
    (text, record { blanked = items.blanked; told = are.told; without_comments = items.without_comments; read = items.read; is = refl })

-- the program of the variant of each valid configuration
pub some_program : AnswerLaws → (dialect : Dialect) (m f : List ℕ) (l : ProductLine) → IsProductLine dialect m f l → (values : List ℤ) → IsValid (plain l.model) values → (p : Whole) × IsProgramAt l values p
some_program laws dialect m f l h values valid =
    let family : IsFamilyOf l.dialect l.model l.text l.family =
    subst (λ (d : Dialect). IsFamilyOf d l.model l.text l.family) (sym h.dialect_is) (subst (λ (b : List ℕ). IsFamilyOf dialect l.model b l.family) (sym h.text) h.family) in
    let text = some_text dialect m f l h values in (
      projection l.family (truths_in l.family values),
      record { text = text.0; preprocessed = text.1; read = laws.variants l.dialect l.model l.text text.0 l.family values family valid text.1 Assert },
    )

some_done : AnswerLaws → (dialect : Dialect) (m f : List ℕ) (words : List (List ℕ)) (task : VariantTask) (s : Selected) → AreSelected dialect m f words s → IsValid (plain s.line.model) s.config.values → (done : Done) × IsDone task s done
some_done laws dialect m f words Project s h valid = let text = some_text dialect m f s.line h.line s.config.values in (record { text = text.0; status = 0 }, (text.1, refl))
some_done laws dialect m f words (Variant analysis) s h valid =
    let p = some_program laws dialect m f s.line h.line s.config.values valid in (program_done analysis (file_of s) p.0, (p.0, p.1, refl))
some_done laws dialect m f words (Run steps inputs mode) s h valid =
    let p = some_program laws dialect m f s.line h.line s.config.values valid in (run_done inputs steps mode p.0, (p.0, p.1, refl))

answer_by : AnswerLaws → (dialect : Dialect) (task : VariantTask) (settings : List (List ℕ)) (told : Contents) → SelectionAnswer dialect told.model told.file settings
    → (answer : Result Done Fault) × AnswersVariant dialect task settings told answer
answer_by laws dialect task settings told (some s h valid) = let done = some_done laws dialect told.model told.file settings task s h valid in (Ok done.0, (s, h, done.1))
answer_by laws dialect task settings told (none given h) = (Err given, h)

-- a variant is answered
pub some_answer : AnswerLaws → (dialect : Dialect) (task : VariantTask) (settings : List (List ℕ)) (told : Contents) → (answer : Result Done Fault) × AnswersVariant dialect task settings told answer
some_answer laws dialect task settings told = answer_by laws dialect task settings told (some_selection laws dialect told.model told.file settings)
