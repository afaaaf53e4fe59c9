-- Advice is given: the nearest configuration without alarms, or none.
use Rattle.std.proofs.Common.{◌≡◌, ◌⊎◌, inl, inr, ℕ, zero, suc, ◌≤◌, ℤ, nat_eq, Bool, true, false, ◌&&◌, List, Option, Some, None, Result, Ok, Err, refl, sym, arith}
use Rattle.std.proofs.lemmas.Bool.Decides.{nat_tests}
use Rattle.fam_outer.specs.declared.dialect.Dialect.{Dialect}
use Rattle.c_tree.specs.Places.{program_places}
use Rattle.c_tree.specs.View.{whole}
use Rattle.linear_atoms.specs.declared.atoms.Atom.{Atom}
use Rattle.linear_atoms.specs.declared.atoms.Config.{Config}
use Rattle.linear_atoms.specs.declared.regions.Regions.TheVariants.{Paths}
use Rattle.cpp_conditions.specs.declared.models.Model.{Model}
use Rattle.cpp_conditions.specs.Validity.{plain, IsValid}
use Rattle.atom_solver.specs.Solutions.{Finds}
use Rattle.decision_tree.specs.Plain.{Plain}
use Rattle.leaf_domain.specs.Leaves.{LeafMeaning}
use Rattle.lifted_analysis.specs.Promises.{by_kind}
use Rattle.plain_analysis.specs.declared.options.Options.{Options}
use Rattle.configuration_advice.specs.declared.comparing.Advice.{Advice}
use Rattle.configuration_advice.specs.Nearest.{differing, is_quiet, IsNearest, Advises}
use Rattle.configuration_advice.specs.Texts.{advice_text}
use Rattle.reading_laws.specs.Answered.{FirstConfigurationsAreFound}
use Rattle.famlint_requests.specs.declared.request.Analysis.{Analysis}
use Rattle.famlint_loads.specs.declared.fault.Done.{Done}
use Rattle.famlint_loads.specs.declared.fault.Fault.{Fault}
use Rattle.famlint_loads.specs.declared.product_line.ProductLine.{ProductLine}
use Rattle.famlint_loads.specs.declared.selected.Selected.{Selected}
use Rattle.famlint_loads.specs.Contents.{Contents}
use Rattle.famlint_loads.specs.Selected.{AreSelected}
use Rattle.famlint_programs.specs.AnalysisOptions.{options_of}
use Rattle.famlint_programs.specs.ProgramAnswers.{meaning_of}
use Rattle.famlint_families.specs.Advised.{trees_of, advice_status, IsNearestWithoutAlarms}
use Rattle.famlint_families.specs.FamilyAnswers.{AnswersAdvice}
use Rattle.famlint_core.proofs.SomeFamily.{have_constraints, some_stops}
use Rattle.famlint_core.proofs.SomeLine.{AnswerLaws}
use Rattle.famlint_core.proofs.SomeNumbering.{some_plausible}
use Rattle.famlint_core.proofs.SomeVariant.{SelectionAnswer, some, none, some_selection}

-- ---- truths

and_left : (a b : Bool) → (a && b) ≡ true → a ≡ true
and_left true b e = refl
and_left false b e = e

and_right : (a b : Bool) → (a && b) ≡ true → b ≡ true
and_right true b e = e
and_right false b e = cc

and_both : (a b : Bool) → a ≡ true → b ≡ true → (a && b) ≡ true
and_both true true e f = refl
and_both true false e f = f
and_both false b e f = e

same : (m n : ℕ) → nat_eq m n ≡ true → m ≡ n
same m n e = grind (arith, nat_tests)

is_same : (m n : ℕ) → m ≡ n → nat_eq m n ≡ true
is_same m n e = grind (arith, nat_tests)

more : (m n : ℕ) → m ≤ n → nat_eq n m ≡ false → suc m ≤ n
more m n h e = grind (arith, nat_tests)

never : (n : ℕ) → suc n ≤ n → ⊥
never n h = omega (arith, h)

-- ---- the nearest configuration

module _ (first : FirstConfigurationsAreFound) (model : Model) (atoms : List Atom) (alarms : List (Plain Bool)) (given : List ℤ) where
  abbrev is_at : ℕ → List ℤ → Bool
  is_at k values = is_quiet atoms alarms values && nat_eq (differing given values) k

  -- some advice, or no quiet configuration with fewer changes than these
  abbrev Within : ℕ → Type 0
  Within k = ((advice : Advice) × IsNearest model atoms alarms given advice) ⊎ ((others : List ℤ) → IsValid (plain model) others → is_quiet atoms alarms others ≡ true → k ≤ differing given others)

  at_least : (k : ℕ) (others : List ℤ) → k ≤ differing given others → is_quiet atoms alarms others ≡ true → (b : Bool) → nat_eq (differing given others) k ≡ b → is_at k others ≡ false → suc k ≤ differing given others
  at_least k others h quiet true e other = let same_too : is_at k others ≡ true = and_both (is_quiet atoms alarms others) (nat_eq (differing given others) k) quiet e in absurd cc
  at_least k others h quiet false e other = more k (differing given others) h e

  one_more : (k : ℕ) → ((others : List ℤ) → IsValid (plain model) others → is_quiet atoms alarms others ≡ true → k ≤ differing given others) → (found : Option Config) → Finds model (is_at k) found → Within (suc k)
  one_more k above None h = inr (λ others valid quiet. at_least k others (above others valid quiet) quiet (nat_eq (differing given others) k) refl (h others valid))
  one_more k above (Some config) h =
      let quiet = is_quiet atoms alarms config.values in
      let count : differing given config.values ≡ k = same (differing given config.values) k (and_right quiet (nat_eq (differing given config.values) k) h.met) in
      inl (
        record { config = config; changed = k },
        record {
          valid = h.valid;
          quiet = and_left quiet (nat_eq (differing given config.values) k) h.met;
          changed = sym count;
          fewest = above;
          first = λ others valid calm as_many. h.first others valid (and_both (is_quiet atoms alarms others) (nat_eq (differing given others) k) calm (is_same (differing given others) k as_many));
        },
      )

  within_by : (k : ℕ) → Within k → Within (suc k)
  within_by k (inl advice) = inl advice
  within_by k (inr above) = let found = first model (is_at k) in one_more k above found.0 found.1

  within : (k : ℕ) → Within k
  within zero = inr (λ others valid quiet. omega arith)
  within (suc k) = within_by k (within k)

  advises_by : (found : Option Config) → Finds model (is_quiet atoms alarms) found → (advice : Option Advice) × Advises model atoms alarms given advice
  advises_by None h = (None, h)
  advises_by (Some config) h = elim (within (suc (differing given config.values))) [
    | inl advice ↦ (Some advice.0, advice.1)
    | inr above ↦ absurd (never (differing given config.values) (above config.values h.valid h.met))
  ]

  some_advised : (advice : Option Advice) × Advises model atoms alarms given advice
  some_advised = let found = first model (is_quiet atoms alarms) in advises_by found.0 found.1

-- ---- answers

some_nearest : AnswerLaws → (M : LeafMeaning) (o : Options) (dialect : Dialect) (m f : List ℕ) (settings : List (List ℕ)) (s : Selected) → AreSelected dialect m f settings s
    → (found : Option Advice) × IsNearestWithoutAlarms M o s.line s.config.values found
some_nearest laws M o dialect m f settings s h =
    let l : ProductLine = s.line in
    let plausible = some_plausible l.model.constraints l.family.atoms (have_constraints l dialect f h.line.family) in
    let trees = some_stops M o Paths l plausible.0 (by_kind (program_places (whole l.family.code))) in
    let advised = some_advised laws.configurations l.model l.family.atoms (trees_of trees.0) s.config.values in
    (advised.0, record { plausible = plausible.0; plausible_is = plausible.1; trees = trees.0; told = trees.1; tells = advised.1 })

answer_by : AnswerLaws → (dialect : Dialect) (analysis : Analysis) (settings : List (List ℕ)) (told : Contents) → SelectionAnswer dialect told.model told.file settings
    → (answer : Result Done Fault) × AnswersAdvice dialect analysis settings told answer
answer_by laws dialect analysis settings told (some s h valid) =
    let found = some_nearest laws (meaning_of analysis.domain) (options_of analysis (whole s.line.family.code)) dialect told.model told.file settings s h in (
      Ok (record { text = advice_text s.line.model.features found.0; status = advice_status found.0 }),
      (s, h, record { found = found.0; is = found.1; text = refl; status = refl }),
    )
answer_by laws dialect analysis settings told (none given h) = (Err given, h)

-- advice is answered
pub some_advice : AnswerLaws → (dialect : Dialect) (analysis : Analysis) (settings : List (List ℕ)) (told : Contents) → (answer : Result Done Fault) × AnswersAdvice dialect analysis settings told answer
some_advice laws dialect analysis settings told = answer_by laws dialect analysis settings told (some_selection laws dialect told.model told.file settings)
