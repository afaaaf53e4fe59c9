-- What is asked of a variant is answered once.
use Rattle.std.proofs.Common.{◌≡◌, ℕ, ℤ, Bool, List, Option, Result, Ok, Err, sym, ap, ap₂, subst, ◌∙◌}
use Rattle.std.specs.Prelude.{if◌then◌else◌}
use Rattle.fam_outer.specs.declared.dialect.Dialect.{Dialect}
use Rattle.fam_outer.specs.declared.dialect.Unknown.{Unknown}
use Rattle.fam_outer.specs.declared.dialect.Includes.TheVariants.{Assert}
use Rattle.fam_outer.specs.declared.faults.FileCode.{FileCode}
use Rattle.fam_outer.specs.declared.faults.Place.{Place}
use Rattle.linear_atoms.specs.declared.atoms.Atom.{Atom}
use Rattle.cpp_conditions.specs.declared.models.Model.{Model}
use Rattle.cpp_conditions.specs.Propositions.{Proposition}
use Rattle.cpp_conditions.specs.Validity.{Plain, plain, is_valid}
use Rattle.cpp_lines.specs.Sections.{truths_at}
use Rattle.cpp_lines.specs.Whole.{IsPreprocessed}
use Rattle.feature_model.specs.declared.faults.ConfigFault.{ConfigFault}
use Rattle.feature_model.specs.declared.faults.ConfigFault.TheVariants as settings_faults
use Rattle.feature_model.specs.declared.faults.ModelFault.{ModelFault}
use Rattle.feature_model.specs.Models.{IsReadAs}
use Rattle.feature_model.specs.Settings.{config_of, settled, steps, unset}
use Rattle.feature_model.specs.Stages.{◌>>=◌}
use Rattle.variant_projector.specs.Variant.{IsVariant}
use Rattle.c_tree.specs.Tree.{Whole}
use Rattle.c_tree.specs.View.{whole}
use Rattle.c_parser.specs.declared.family.Family.{Family}
use Rattle.c_parser.specs.Reading.{IsPlainReadOver}
use Rattle.c_parser.specs.Functions.{functions_of_bytes}
use Rattle.c_parser.specs.Variants.{names_in, given_of, given_at, AreSameFamily, FamiliesAreNotRefused, FamiliesAreReadOnce, FamiliesAreRefusedOnce}
use Rattle.famlint_loads.specs.declared.fault.Done.{Done}
use Rattle.famlint_loads.specs.declared.fault.Fault.{Fault}
use Rattle.famlint_loads.specs.declared.fault.Fault.TheVariants as fault
use Rattle.famlint_requests.specs.declared.request.VariantTask.{VariantTask}
use Rattle.famlint_requests.specs.declared.request.VariantTask.TheVariants.{Project, Variant, Run}
use Rattle.famlint_loads.specs.declared.product_line.ProductLine.{ProductLine}
use Rattle.famlint_loads.specs.declared.selected.Selected.{Selected}
use Rattle.famlint_programs.specs.ProgramAnswers.{AnswersVariant, IsDone, program_done, run_done}
use Rattle.famlint_loads.specs.Contents.{Contents}
use Rattle.famlint_loads.specs.Faults.{example_of, fault_of_settings}
use Rattle.famlint_loads.specs.Loads.{IsFamily, IsModel}
use Rattle.famlint_loads.specs.ProductLines as lines
use Rattle.famlint_loads.specs.ProductLines.{IsLineRefused, IsProductLine, IsProgramAt}
use Rattle.famlint_loads.specs.Selected as selected
use Rattle.famlint_loads.specs.Selected.{AreSelected, IsProgramOf, IsSelectionRefused, IsSettled}
use Rattle.famlint_core.proofs.Answering.{OneReading}

-- what laws of lower crates say
pub record VariantLaws : Type 0 where
  pub models : (unknown : Unknown) (bytes : List ℕ) (r s : Result Plain ModelFault) → IsReadAs unknown bytes r → IsReadAs unknown bytes s → r ≡ s
  pub families : FamiliesAreReadOnce
  pub accepted : FamiliesAreNotRefused
  pub refused : FamiliesAreRefusedOnce
  pub texts : (dialect : Dialect) (model : Plain) (truths : List (Proposition Atom) → List Bool) (bytes s t : List ℕ) → IsPreprocessed dialect model truths bytes s → IsPreprocessed dialect model truths bytes t → s ≡ t
  pub programs : OneReading

-- ---- models

abbrev model_ok : Plain → Result Plain ModelFault
model_ok m = Ok m

abbrev model_err : ModelFault → Result Plain ModelFault
model_err f = Err f

same_ok : (a b : Plain) → model_ok a ≡ model_ok b → a ≡ b
same_ok a b e = let k : model_ok a ≡ model_ok b = e in cc

same_err : (f g : ModelFault) → model_err f ≡ model_err g → f ≡ g
same_err f g e = let k : model_err f ≡ model_err g = e in cc

ok_or_err : (a : Plain) (f : ModelFault) → model_ok a ≡ model_err f → ⊥
ok_or_err a f e = let k : model_ok a ≡ model_err f = e in cc

pub same_model : VariantLaws → (unknown : Unknown) (m : List ℕ) (a b : Model) → IsModel unknown m (Ok a) → IsModel unknown m (Ok b) → plain a ≡ plain b
same_model laws unknown m a b h k = same_ok (plain a) (plain b) (laws.models unknown m (Ok (plain a)) (Ok (plain b)) h k)

pub no_model_fault : VariantLaws → (unknown : Unknown) (m : List ℕ) (a : Model) (f : Fault) → IsModel unknown m (Ok a) → IsModel unknown m (Err f) → ⊥
no_model_fault laws unknown m a (fault.Model f) h k = ok_or_err (plain a) f (laws.models unknown m (Ok (plain a)) (Err f) h k)
no_model_fault laws unknown m a (fault.File code place example) h k = absurd k
no_model_fault laws unknown m a (fault.Settings given name) h k = absurd k
no_model_fault laws unknown m a (fault.Certificate given) h k = absurd k

pub same_model_fault : VariantLaws → (unknown : Unknown) (m : List ℕ) (f g : Fault) → IsModel unknown m (Err f) → IsModel unknown m (Err g) → f ≡ g
same_model_fault laws unknown m (fault.Model f) (fault.Model g) h k = ap (λ (x : ModelFault). fault.Model x) (same_err f g (laws.models unknown m (Err f) (Err g) h k))
same_model_fault laws unknown m (fault.Model f) (fault.File code place example) h k = absurd k
same_model_fault laws unknown m (fault.Model f) (fault.Settings given name) h k = absurd k
same_model_fault laws unknown m (fault.Model f) (fault.Certificate given) h k = absurd k
same_model_fault laws unknown m (fault.File code place example) g h k = absurd h
same_model_fault laws unknown m (fault.Settings given name) g h k = absurd h
same_model_fault laws unknown m (fault.Certificate given) g h k = absurd h

-- ---- families

no_family_fault : VariantLaws → (dialect : Dialect) (a b : Model) → plain a ≡ plain b → (bytes : List ℕ) (l : Family) (f : Fault) → IsFamily dialect a bytes (Ok l) → IsFamily dialect b bytes (Err f) → ⊥
no_family_fault laws dialect a b e bytes l (fault.File code place example) h k = laws.accepted dialect a b bytes l (code, place) e h k.1
no_family_fault laws dialect a b e bytes l (fault.Model given) h k = k
no_family_fault laws dialect a b e bytes l (fault.Settings given name) h k = k
no_family_fault laws dialect a b e bytes l (fault.Certificate given) h k = k

same_family_fault : VariantLaws → (dialect : Dialect) (a b : Model) → plain a ≡ plain b → (bytes : List ℕ) (f g : Fault) → IsFamily dialect a bytes (Err f) → IsFamily dialect b bytes (Err g) → f ≡ g
same_family_fault laws dialect a b e bytes (fault.File c p x) (fault.File d q y) h k =
    let same : (c, p) ≡ (d, q) = laws.refused dialect a b bytes (c, p) (d, q) e h.1 k.1 in
    let code : c ≡ d = ap (λ (z : FileCode × Place). z.0) same in
    let example : x ≡ y = h.0 ∙ ap (λ (m : Plain). example_of m.features c) e ∙ ap (example_of b.features) code ∙ sym k.0 in
    ap (λ (z : FileCode × Place). fault.File z.0 z.1 x) same ∙ ap (λ (z : Option (List ℕ)). fault.File d q z) example
same_family_fault laws dialect a b e bytes (fault.File c p x) (fault.Model given) h k = absurd k
same_family_fault laws dialect a b e bytes (fault.File c p x) (fault.Settings given name) h k = absurd k
same_family_fault laws dialect a b e bytes (fault.File c p x) (fault.Certificate given) h k = absurd k
same_family_fault laws dialect a b e bytes (fault.Model given) g h k = absurd h
same_family_fault laws dialect a b e bytes (fault.Settings given name) g h k = absurd h
same_family_fault laws dialect a b e bytes (fault.Certificate given) g h k = absurd h

-- ---- settings

abbrev checked_by : Plain → List ℤ → Result (List ℤ) ConfigFault
checked_by m values = if is_valid m values then Ok values else Err settings_faults.NotValid

-- the configuration, by the model as plain data
abbrev config_by : Plain → List (List ℕ) → Result (List ℤ) ConfigFault
config_by m words = steps m.features 1 (unset m.features) words >>= λ slots. settled 1 m.features slots >>= checked_by m

same_config : (a b : Model) → plain a ≡ plain b → (words : List (List ℕ)) → config_of a words ≡ config_of b words
same_config a b e words = ap (λ (m : Plain). config_by m words) e

abbrev values_ok : List ℤ → Result (List ℤ) ConfigFault
values_ok v = Ok v

abbrev values_err : ConfigFault → Result (List ℤ) ConfigFault
values_err f = Err f

same_values : (v w : List ℤ) → values_ok v ≡ values_ok w → v ≡ w
same_values v w e = let k : values_ok v ≡ values_ok w = e in cc

same_setting : (f g : ConfigFault) → values_err f ≡ values_err g → f ≡ g
same_setting f g e = let k : values_err f ≡ values_err g = e in cc

set_or_not : (v : List ℤ) (f : ConfigFault) → values_ok v ≡ values_err f → ⊥
set_or_not v f e = let k : values_ok v ≡ values_err f = e in cc

no_settings_fault : (a b : Model) → plain a ≡ plain b → (words : List (List ℕ)) (v : List ℤ) (f : Fault) → config_of a words ≡ Ok v → IsSettled b words (Err f) → ⊥
no_settings_fault a b e words v f h k = set_or_not v k.0 (sym h ∙ same_config a b e words ∙ k.1)

same_settings_fault : (a b : Model) → plain a ≡ plain b → (words : List (List ℕ)) (f g : Fault) → IsSettled a words (Err f) → IsSettled b words (Err g) → f ≡ g
same_settings_fault a b e words f g h k =
    let given : h.0 ≡ k.0 = same_setting h.0 k.0 (sym h.1 ∙ same_config a b e words ∙ k.1) in
    h.2 ∙ ap (λ (m : Plain). fault_of_settings m.features h.0) e ∙ ap (fault_of_settings b.features) given ∙ sym k.2

-- ---- refusals

-- the models of two product lines of the same files are the same
pub same_line_model : VariantLaws → (dialect : Dialect) (m f : List ℕ) (l k : ProductLine) → IsProductLine dialect m f l → IsProductLine dialect m f k → plain l.model ≡ plain k.model
same_line_model laws dialect m f l k h i = same_model laws dialect.unknown m l.model k.model h.model i.model

pub no_line_refusal : VariantLaws → (dialect : Dialect) (m f : List ℕ) (l : ProductLine) (g : Fault) → IsProductLine dialect m f l → IsLineRefused dialect m f g → ⊥
no_line_refusal laws dialect m f l g h (lines.no_model k) = no_model_fault laws dialect.unknown m l.model g h.model k
no_line_refusal laws dialect m f l g h (lines.no_family b i k) = no_family_fault laws dialect l.model b (same_model laws dialect.unknown m l.model b h.model i) f l.family g h.family k

pub same_line_refusal : VariantLaws → (dialect : Dialect) (m f : List ℕ) (x y : Fault) → IsLineRefused dialect m f x → IsLineRefused dialect m f y → x ≡ y
same_line_refusal laws dialect m f x y (lines.no_model h) (lines.no_model k) = same_model_fault laws dialect.unknown m x y h k
same_line_refusal laws dialect m f x y (lines.no_model h) (lines.no_family b i k) = absurd (no_model_fault laws dialect.unknown m b x i h)
same_line_refusal laws dialect m f x y (lines.no_family a i h) (lines.no_model k) = absurd (no_model_fault laws dialect.unknown m a y i k)
same_line_refusal laws dialect m f x y (lines.no_family a i h) (lines.no_family b j k) = same_family_fault laws dialect a b (same_model laws dialect.unknown m a b i j) f x y h k

pub no_refusal : VariantLaws → (dialect : Dialect) (m f : List ℕ) (words : List (List ℕ)) (s : Selected) (g : Fault) → AreSelected dialect m f words s → IsSelectionRefused dialect m f words g → ⊥
no_refusal laws dialect m f words s g h (selected.no_line k) = no_line_refusal laws dialect m f s.line g h.line k
no_refusal laws dialect m f words s g h (selected.no_settings l i k) =
    no_settings_fault s.line.model l.model (same_line_model laws dialect m f s.line l h.line i) words s.config.values g h.config k

pub same_refusal : VariantLaws → (dialect : Dialect) (m f : List ℕ) (words : List (List ℕ)) (x y : Fault) → IsSelectionRefused dialect m f words x → IsSelectionRefused dialect m f words y → x ≡ y
same_refusal laws dialect m f words x y (selected.no_line h) (selected.no_line k) = same_line_refusal laws dialect m f x y h k
same_refusal laws dialect m f words x y (selected.no_line h) (selected.no_settings l i k) = absurd (no_line_refusal laws dialect m f l x i h)
same_refusal laws dialect m f words x y (selected.no_settings l i h) (selected.no_line k) = absurd (no_line_refusal laws dialect m f l y i k)
same_refusal laws dialect m f words x y (selected.no_settings l i h) (selected.no_settings n j k) =
    same_settings_fault l.model n.model (same_line_model laws dialect m f l n i j) words x y h k

-- ---- two product lines of the same files

pub record AreAlike (k l : ProductLine) : Type 0 where
  pub dialect : k.dialect ≡ l.dialect
  pub model : plain k.model ≡ plain l.model
  pub code : whole k.family.code ≡ whole l.family.code
  pub text : k.text ≡ l.text

pub alike : VariantLaws → (dialect : Dialect) (m f : List ℕ) (k l : ProductLine) → IsProductLine dialect m f k → IsProductLine dialect m f l → AreAlike k l
alike laws dialect m f k l h i =
    let e : plain k.model ≡ plain l.model = same_line_model laws dialect m f k l h i in
    let family : AreSameFamily k.family l.family = laws.families dialect k.model l.model f k.family l.family e h.family i.family in
    record { dialect = h.dialect_is ∙ sym i.dialect_is; model = e; code = family.code; text = h.text ∙ sym i.text }

-- the texts and the programs of their variants are the same

variant_moved : (k l : ProductLine) → AreAlike k l → (values : List ℤ) (x : List ℕ) → IsVariant k.dialect (plain k.model) values k.text x → IsVariant l.dialect (plain l.model) values l.text x
variant_moved k l e values x h =
    subst (λ (d : Dialect). IsPreprocessed d (plain l.model) (truths_at values) l.text x) e.dialect
    (subst (λ (b : List ℕ). IsPreprocessed k.dialect (plain l.model) (truths_at values) b x) e.text
    (subst (λ (m : Plain). IsPreprocessed k.dialect m (truths_at values) k.text x) e.model h))

pub program_moved : (k l : ProductLine) → AreAlike k l → (values : List ℤ) (p : Whole) → IsProgramAt k values p → IsProgramAt l values p
program_moved k l e values p h = record {
  text = h.text;
  preprocessed = variant_moved k l e values h.text h.preprocessed;
  read =
      subst (λ (b : List ℕ). IsPlainReadOver Assert (given_of l.model.features (functions_of_bytes b) (names_in l.family) values) h.text (Ok p)) e.text
      (subst (λ (w : Whole). IsPlainReadOver Assert (given_of l.model.features (functions_of_bytes k.text) w.names values) h.text (Ok p)) e.code
      (subst (λ (m : Plain). IsPlainReadOver Assert (given_of m.features (functions_of_bytes k.text) (names_in k.family) values) h.text (Ok p)) e.model h.read));
}

one_text : VariantLaws → (l : ProductLine) (values : List ℤ) (x y : List ℕ) → IsVariant l.dialect (plain l.model) values l.text x → IsVariant l.dialect (plain l.model) values l.text y → x ≡ y
one_text laws l values x y h k = laws.texts l.dialect (plain l.model) (truths_at values) l.text x y h k

abbrev read_ok : Whole → Result Whole (FileCode × Place)
read_ok p = Ok p

same_read : (p q : Whole) → read_ok p ≡ read_ok q → p ≡ q
same_read p q e = let k : read_ok p ≡ read_ok q = e in cc

pub one_program : VariantLaws → (l : ProductLine) (values : List ℤ) (p q : Whole) → IsProgramAt l values p → IsProgramAt l values q → p ≡ q
one_program laws l values p q h k =
    let text : h.text ≡ k.text = one_text laws l values h.text k.text h.preprocessed k.preprocessed in
    same_read p q
    (laws.programs Assert (given_at l.model (functions_of_bytes l.text) l.family values) k.text (Ok p) (Ok q) (subst (λ (b : List ℕ). IsPlainReadOver Assert (given_at l.model (functions_of_bytes l.text) l.family values) b (Ok p)) text h.read) k.read)

-- ---- what is done

-- two selections of the same files and settings
pub record AreSame (s t : Selected) : Type 0 where
  pub line : AreAlike s.line t.line
  pub values : s.config.values ≡ t.config.values

pub same_selected : VariantLaws → (dialect : Dialect) (m f : List ℕ) (words : List (List ℕ)) (s t : Selected) → AreSelected dialect m f words s → AreSelected dialect m f words t → AreSame s t
same_selected laws dialect m f words s t h k =
    let line : AreAlike s.line t.line = alike laws dialect m f s.line t.line h.line k.line in
    record {
      line = line;
      values = same_values s.config.values t.config.values (sym h.config ∙ same_config s.line.model t.line.model line.model words ∙ k.config);
    }

same_text : VariantLaws → (s t : Selected) → AreSame s t → (x y : List ℕ) → IsVariant s.line.dialect (plain s.line.model) s.config.values s.line.text x → IsVariant t.line.dialect (plain t.line.model) t.config.values t.line.text y → x ≡ y
same_text laws s t e x y h k =
    one_text laws t.line t.config.values x y
    (subst (λ (v : List ℤ). IsVariant t.line.dialect (plain t.line.model) v t.line.text x) e.values (variant_moved s.line t.line e.line s.config.values x h)) k

same_program : VariantLaws → (s t : Selected) → AreSame s t → (p q : Whole) → IsProgramOf s p → IsProgramOf t q → p ≡ q
same_program laws s t e p q h k =
    one_program laws t.line t.config.values p q
    (subst (λ (v : List ℤ). IsProgramAt t.line v p) e.values (program_moved s.line t.line e.line s.config.values p h)) k

abbrev pub done : List ℕ → ℕ → Done
done text status = record { text = text; status = status }

same_done : VariantLaws → (task : VariantTask) (s t : Selected) → AreSame s t → (x y : Done) → IsDone task s x → IsDone task t y → x ≡ y
same_done laws Project s t e x y (h, i) (k, j) = ap (λ (b : List ℕ). done b x.status) (same_text laws s t e x.text y.text h k) ∙ ap (done y.text) (i ∙ sym j)
same_done laws (Variant analysis) s t e x y (p, h, i) (q, k, j) = i ∙ ap₂ (program_done analysis) e.line.code (same_program laws s t e p q h k) ∙ sym j
same_done laws (Run steps inputs mode) s t e x y (p, h, i) (q, k, j) = i ∙ ap (run_done inputs steps mode) (same_program laws s t e p q h k) ∙ sym j

-- a variant is answered once
pub one_answer : VariantLaws → (dialect : Dialect) (task : VariantTask) (settings : List (List ℕ)) (told : Contents) (a b : Result Done Fault) → AnswersVariant dialect task settings told a → AnswersVariant dialect task settings told b → a ≡ b
one_answer laws dialect task settings told (Ok x) (Ok y) (s, h, i) (t, k, j) =
    ap (λ (d : Done). Ok d) (same_done laws task s t (same_selected laws dialect told.model told.file settings s t h k) x y i j)
one_answer laws dialect task settings told (Ok x) (Err g) (s, h, i) k = absurd (no_refusal laws dialect told.model told.file settings s g h k)
one_answer laws dialect task settings told (Err g) (Ok x) h (s, k, i) = absurd (no_refusal laws dialect told.model told.file settings s g k h)
one_answer laws dialect task settings told (Err f) (Err g) h k = ap (λ (x : Fault). Err x) (same_refusal laws dialect told.model told.file settings f g h k)
