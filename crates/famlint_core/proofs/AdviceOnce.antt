-- What a model leaves open is answered once, and so is advice.
use Rattle.std.proofs.Common.{◌≡◌, ℕ, ℤ, Bool, true, not, ◌&&◌, List, [], ◌∷◌, ◌++◌, codes, map, length, Option, Some, None, Result, Ok, Err, refl, sym, ap, ap₂, subst, ◌∙◌}
use Rattle.std.specs.Prelude.{if◌then◌else◌}
use Rattle.std.specs.List.{AllByRecursion}
use Rattle.std.proofs.lemmas.List.{length-map}
use Rattle.std.proofs.lemmas.List.Elements.{recursion_from_All}
use Rattle.fam_outer.specs.declared.dialect.Dialect.{Dialect}
use Rattle.fam_outer.specs.declared.dialect.Unknown.{Unknown}
use Rattle.fam_outer.specs.declared.faults.Place.{Place}
use Rattle.c_tree.specs.declared.tree.Kind.{Kind}
use Rattle.c_tree.specs.Places.{program_places}
use Rattle.c_tree.specs.Project.{projected_program}
use Rattle.c_tree.specs.Tree.{Whole}
use Rattle.c_tree.specs.View.{whole}
use Rattle.linear_atoms.specs.declared.atoms.Feature.{Feature}
use Rattle.linear_atoms.specs.declared.regions.Regions.TheVariants.{Paths}
use Rattle.linear_atoms.specs.SettingTexts.{config_text}
use Rattle.cpp_conditions.specs.Numbering.{vector_at}
use Rattle.cpp_conditions.specs.Validity.{Plain, plain, IsValid}
use Rattle.cpp_conditions.specs.View.{formula}
use Rattle.atom_solver.proofs.Ordered.{valid_plausible}
use Rattle.feature_model.specs.declared.faults.ModelFault.{ModelFault}
use Rattle.feature_model.specs.declared.faults.ModelFault.TheVariants as model_faults
use Rattle.feature_model.specs.Models.{Ends, IsReadAs}
use Rattle.feature_model.specs.Models as models
use Rattle.decision_tree.specs.Plain.{leaf_of}
use Rattle.leaf_domain.specs.Leaves.{LeafValue, LeafMeaning, nothing_of}
use Rattle.lifted_analysis.specs.Promises.{truths_of, variant_at, begin_at, by_kind}
use Rattle.plain_analysis.specs.declared.options.Options.{Options}
use Rattle.plain_analysis.specs.Places.{alarm_of}
use Rattle.c_parser.specs.Variants.{AreSameFamily}
use Rattle.alarm_report.specs.Alarms.{PlainAlarmTree}
use Rattle.configuration_advice.specs.declared.comparing.Advice.{Advice}
use Rattle.configuration_advice.specs.Nearest.{are_false, is_quiet, Advises}
use Rattle.configuration_advice.specs.Texts.{uses_text, changed_text, advice_text}
use Rattle.advice_laws.specs.Once.{UsesAreOne, AdviceIsOne, told_of}
use Rattle.famlint_requests.specs.declared.request.Analysis.{Analysis}
use Rattle.famlint_loads.specs.declared.fault.Done.{Done}
use Rattle.famlint_loads.specs.declared.fault.Fault.{Fault}
use Rattle.famlint_loads.specs.declared.product_line.ProductLine.{ProductLine}
use Rattle.famlint_loads.specs.declared.selected.Selected.{Selected}
use Rattle.famlint_loads.specs.Contents.{Contents}
use Rattle.famlint_loads.specs.Selected.{AreSelected}
use Rattle.famlint_programs.proofs.Keys.{key}
use Rattle.famlint_programs.specs.AnalysisOptions.{options_of}
use Rattle.famlint_programs.specs.ProgramAnswers.{meaning_of}
use Rattle.famlint_families.specs.Advised.{trees_of, advice_status, IsNearestWithoutAlarms, IsAdviseDone}
use Rattle.famlint_families.specs.FamilyAnswers.{AnswersAdvice, AnswersFeatures}
use Rattle.famlint_families.specs.FamilyReports.{IsAlarmTreeOf}
use Rattle.famlint_core.proofs.VariantOnce.{VariantLaws, same_model, no_model_fault, same_model_fault, no_refusal, same_refusal, same_selected, AreSame, done}

-- ---- features

-- a model that is read has a valid configuration
abbrev HasValid : Plain → Type 0
HasValid m = (values : List ℤ) × IsValid m values

abbrev read_ok : Plain → Result Plain ModelFault
read_ok m = Ok m

abbrev read_err : ModelFault → Result Plain ModelFault
read_err f = Err f

same_read : (a b : Plain) → read_ok a ≡ read_ok b → a ≡ b
same_read a b e = let k : read_ok a ≡ read_ok b = e in cc

not_read : (f : ModelFault) (a : Plain) → read_err f ≡ read_ok a → ⊥
not_read f a e = let k : read_err f ≡ read_ok a = e in cc

ended_valid : (m a : Plain) (end : Result Plain ModelFault) → Ends m end → end ≡ Ok a → HasValid a
ended_valid m a _ (models.too_many_tests more) e = absurd (not_read model_faults.TooManyTests a e)
ended_valid m a _ (models.void few none) e = absurd (not_read model_faults.Void a e)
ended_valid m a _ (models.accepted few values valid) e = (values, subst (λ (x : Plain). IsValid x values) (same_read m a e) valid)

read_valid : (unknown : Unknown) (bytes : List ℕ) (a : Plain) (r : Result Plain ModelFault) → IsReadAs unknown bytes r → r ≡ Ok a → HasValid a
read_valid unknown bytes a _ (models.untold f e) h = absurd (not_read f a h)
read_valid unknown bytes a _ (models.refused t f e constraints) h = absurd (not_read f a h)
read_valid unknown bytes a _ (models.said m end says ends) h = ended_valid m a end ends h

pub one_features : VariantLaws → UsesAreOne → (unknown : Unknown) (bytes : List ℕ) (a b : Result Done Fault) → AnswersFeatures unknown bytes a → AnswersFeatures unknown bytes b → a ≡ b
one_features laws once unknown bytes (Ok x) (Ok y) (m, h, i) (n, k, j) =
    let e : plain m ≡ plain n = same_model laws unknown bytes m n h k in
    let v : HasValid (plain m) = read_valid unknown bytes (plain m) (Ok (plain m)) h refl in
    let uses : i.uses ≡ j.uses = once m n v.0 i.uses j.uses e v.1 i.are j.are in
    let text : x.text ≡ y.text = i.text ∙ ap (λ (p : Plain). uses_text p.features i.uses) e ∙ ap (uses_text n.features) uses ∙ sym j.text in
    ap (λ (d : Done). Ok d) (ap (λ (t : List ℕ). done t x.status) text ∙ ap (done y.text) (i.status ∙ sym j.status))
one_features laws once unknown bytes (Ok x) (Err g) (m, h, i) k = absurd (no_model_fault laws unknown bytes m g h k)
one_features laws once unknown bytes (Err g) (Ok x) h (m, k, i) = absurd (no_model_fault laws unknown bytes m g k h)
one_features laws once unknown bytes (Err f) (Err g) h k = ap (λ (x : Fault). Err x) (same_model_fault laws unknown bytes f g h k)

-- ---- where the trees of stops are false

-- none of the keys has it
abbrev none_of : (Place × Kind → Bool) → List (Place × Kind) → Bool
none_of f [] = true
none_of f (k ∷ ks) = not (f k) && none_of f ks

false_where : (f : Place × Kind → Bool) (v : List Bool) (trees : List PlainAlarmTree) → AllByRecursion (λ (t : PlainAlarmTree). leaf_of t.tree v ≡ f (key t)) trees
    → are_false (trees_of trees) v ≡ none_of f (map key trees)
false_where f v [] h = refl
false_where f v (t ∷ trees) h = ap₂ (λ (a b : Bool). not a && b) h.0 (false_where f v trees h.1)

all_mapped : {X : Type 0} (P Q : X → Type 0) → ((x : X) → P x → Q x) → (xs : List X) → AllByRecursion P xs → AllByRecursion Q xs
all_mapped P Q f [] h = tt
all_mapped P Q f (x ∷ xs) h = (f x h.0, all_mapped P Q f xs h.1)

-- whether the analysis of the variant with these truths has no alarm
abbrev has_none : LeafMeaning → Analysis → Whole → List Bool → Bool
has_none M analysis w truths =
    none_of (λ (k : Place × Kind). alarm_of M (options_of analysis w) (projected_program truths w) (M.start (projected_program truths w).start) k.0 k.1) (by_kind (program_places w))

module _ (M : LeafMeaning) (analysis : Analysis) (l : ProductLine) (given : List ℤ) (found : Option Advice)
    (n : IsNearestWithoutAlarms M (options_of analysis (whole l.family.code)) l given found) where
  abbrev o : Options
  o = options_of analysis (whole l.family.code)

  abbrev variant : List ℤ → Whole
  variant values = variant_at (whole l.family.code) l.family.conditions (vector_at l.family.atoms values)

  begins : (values : List ℤ) → IsValid (plain l.model) values
      → begin_at M (whole l.family.code) l.family.conditions n.plausible (vector_at l.family.atoms values) ≡ M.start (variant values).start
  begins values valid =
      ap (λ (b : Bool). if b then M.start (variant values).start else nothing_of (length (whole l.family.code).names))
      (valid_plausible l.model l.family.atoms (formula n.plausible) n.plausible_is values valid)

  tree_says : (values : List ℤ) → IsValid (plain l.model) values → (t : PlainAlarmTree) → IsAlarmTreeOf M o Paths l n.plausible t
      → leaf_of t.tree (vector_at l.family.atoms values) ≡ alarm_of M o (variant values) (M.start (variant values).start) t.place t.kind
  tree_says values valid t is =
      is.leads (vector_at l.family.atoms values) (length-map l.family.atoms _) ∙ ap (λ (d : LeafValue). alarm_of M o (variant values) d t.place t.kind) (begins values valid)

  quiet_where : (values : List ℤ) → IsValid (plain l.model) values
      → is_quiet l.family.atoms (trees_of n.trees) values ≡ has_none M analysis (whole l.family.code) (truths_of l.family.conditions (vector_at l.family.atoms values))
  quiet_where values valid =
      let f : Place × Kind → Bool = λ k. alarm_of M o (variant values) (M.start (variant values).start) k.0 k.1 in
      false_where f (vector_at l.family.atoms values) n.trees
      (all_mapped (IsAlarmTreeOf M o Paths l n.plausible) (λ (t : PlainAlarmTree). leaf_of t.tree (vector_at l.family.atoms values) ≡ f (key t)) (tree_says values valid) n.trees
      (recursion_from_All (IsAlarmTreeOf M o Paths l n.plausible) n.trees n.told.are))
      ∙ ap (none_of f) n.told.keys

-- ---- advice

-- its text and its status, by what is told of it
abbrev told_text : List Feature → Option (List ℤ × ℕ) → List ℕ
told_text features None = codes "advice: none\n"
told_text features (Some told) = codes "advice: " ++ config_text features told.0 ++ changed_text told.1

abbrev told_status : Option (List ℤ × ℕ) → ℕ
told_status None = 1
told_status (Some told) = 0

text_told : (features : List Feature) (found : Option Advice) → advice_text features found ≡ told_text features (told_of found)
text_told features None = refl
text_told features (Some advice) = refl

status_told : (found : Option Advice) → advice_status found ≡ told_status (told_of found)
status_told None = refl
status_told (Some advice) = refl

one_done : VariantLaws → AdviceIsOne → (dialect : Dialect) (analysis : Analysis) (settings : List (List ℕ)) (told : Contents) (s t : Selected) (x y : Done)
    → AreSelected dialect told.model told.file settings s → AreSelected dialect told.model told.file settings t
    → IsAdviseDone (meaning_of analysis.domain) (options_of analysis (whole s.line.family.code)) s.line s.config.values x
    → IsAdviseDone (meaning_of analysis.domain) (options_of analysis (whole t.line.family.code)) t.line t.config.values y → x ≡ y
one_done laws once dialect analysis settings told s t x y h k i j =
    let M = meaning_of analysis.domain in
    let same : AreSame s t = same_selected laws dialect told.model told.file settings s t h k in
    let family : AreSameFamily s.line.family t.line.family =
    laws.families dialect s.line.model t.line.model told.file s.line.family t.line.family same.line.model h.line.family k.line.family in
    let quiet : (values : List ℤ) → IsValid (plain s.line.model) values
    → is_quiet s.line.family.atoms (trees_of i.is.trees) values ≡ is_quiet t.line.family.atoms (trees_of j.is.trees) values =
    λ values valid.
    quiet_where M analysis s.line s.config.values i.found i.is values valid
    ∙ ap (λ (w : Whole). has_none M analysis w (truths_of s.line.family.conditions (vector_at s.line.family.atoms values))) family.code
    ∙ ap (λ (ts : List Bool). has_none M analysis (whole t.line.family.code) ts) (family.truths values)
    ∙ sym (quiet_where M analysis t.line t.config.values j.found j.is values (subst (λ (m : Plain). IsValid m values) same.line.model valid)) in
    let mine : Advises s.line.model s.line.family.atoms (trees_of i.is.trees) t.config.values i.found =
    subst (λ (g : List ℤ). Advises s.line.model s.line.family.atoms (trees_of i.is.trees) g i.found) same.values i.is.tells in
    let one : told_of i.found ≡ told_of j.found =
    once s.line.model t.line.model s.line.family.atoms t.line.family.atoms (trees_of i.is.trees) (trees_of j.is.trees) t.config.values i.found j.found same.line.model quiet mine j.is.tells in
    let text : x.text ≡ y.text =
    i.text ∙ text_told s.line.model.features i.found ∙ ap (λ (m : Plain). told_text m.features (told_of i.found)) same.line.model
    ∙ ap (told_text t.line.model.features) one ∙ sym (text_told t.line.model.features j.found) ∙ sym j.text in
    let status : x.status ≡ y.status = i.status ∙ status_told i.found ∙ ap told_status one ∙ sym (status_told j.found) ∙ sym j.status in
    ap (λ (z : List ℕ). done z x.status) text ∙ ap (done y.text) status

pub one_advice : VariantLaws → AdviceIsOne → (dialect : Dialect) (analysis : Analysis) (settings : List (List ℕ)) (told : Contents) (a b : Result Done Fault)
    → AnswersAdvice dialect analysis settings told a → AnswersAdvice dialect analysis settings told b → a ≡ b
one_advice laws once dialect analysis settings told (Ok x) (Ok y) (s, h, i) (t, k, j) = ap (λ (d : Done). Ok d) (one_done laws once dialect analysis settings told s t x y h k i j)
one_advice laws once dialect analysis settings told (Ok x) (Err g) (s, h, i) k = absurd (no_refusal laws dialect told.model told.file settings s g h k)
one_advice laws once dialect analysis settings told (Err g) (Ok x) h (s, k, i) = absurd (no_refusal laws dialect told.model told.file settings s g k h)
one_advice laws once dialect analysis settings told (Err f) (Err g) h k = ap (λ (x : Fault). Err x) (same_refusal laws dialect told.model told.file settings f g h k)
