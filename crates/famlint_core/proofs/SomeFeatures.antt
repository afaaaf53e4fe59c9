-- What a model leaves open is answered.
use Rattle.std.proofs.Common.{◌≡◌, ◌⊎◌, ℕ, zero, suc, ◌+◌, ℤ, pos, negsuc, ◌+ℤ◌, ◌-ℤ◌, ◌≤ℤ◌, int_le, Bool, true, false, List, [], ◌∷◌, length, slice_get, Option, Some, None, Result, Ok, Err, refl, sym, ap, subst, ◌∙◌, inl, inr, arith}
use Rattle.std.proofs.lemmas.Int.{ints}
use Rattle.fam_outer.specs.declared.dialect.Unknown.{Unknown}
use Rattle.linear_atoms.specs.declared.atoms.Config.{Config}
use Rattle.linear_atoms.specs.declared.atoms.Feature.{Feature}
use Rattle.linear_atoms.specs.Atoms.{IsWithin}
use Rattle.cpp_conditions.specs.declared.models.Model.{Model}
use Rattle.cpp_conditions.specs.Validity.{plain, IsValid}
use Rattle.cpp_conditions.proofs.Within.{valid_parts}
use Rattle.atom_solver.specs.Solutions.{Finds}
use Rattle.configuration_advice.specs.declared.feature_uses.FeatureUse.{FeatureUse}
use Rattle.configuration_advice.specs.declared.feature_uses.FeatureUse.TheVariants.{Free, Dead, Always, Span}
use Rattle.configuration_advice.specs.Texts.{uses_text}
use Rattle.configuration_advice.specs.Uses.{value_of, AllFrom, AllTo, SomeFrom, SomeTo, IsLeast, IsGreatest, IsUse, AreUses}
use Rattle.reading_laws.specs.Answered.{FirstConfigurationsAreFound}
use Rattle.famlint_loads.specs.declared.fault.Done.{Done}
use Rattle.famlint_loads.specs.declared.fault.Fault.{Fault}
use Rattle.famlint_families.specs.FamilyAnswers.{AnswersFeatures}
use Rattle.famlint_core.proofs.SomeLine.{AnswerLaws, ModelAnswer, read, none, some_model}

-- ---- values

so_from : (a b : ℤ) → int_le a b ≡ true → a ≤ℤ b
so_from a b e = grind (arith, ints)

not_from : (a b : ℤ) → int_le a b ≡ false → (b +ℤ pos 1) ≤ℤ a
not_from a b e = grind (arith, ints)

less_one : (v : ℤ) → (v +ℤ pos 1) ≤ℤ pos 1 → v ≤ℤ pos 0
less_one v h = omega (arith, ints)

from_one : (v : ℤ) → (pos 0 +ℤ pos 1) ≤ℤ v → pos 1 ≤ℤ v
from_one v h = omega (arith, ints)

at_both : (v w : ℤ) → v ≤ℤ w → w ≤ℤ v → w ≡ v
at_both v w h k = grind (arith, ints)

past : (low x : ℤ) (n : ℕ) → (x -ℤ low) ≡ pos n → (low +ℤ pos (suc n)) ≤ℤ x → ⊥
past low x n e h = omega (arith, ints)

past_none : (low x : ℤ) (n : ℕ) → (x -ℤ low) ≡ negsuc n → low ≤ℤ x → ⊥
past_none low x n e h = omega (arith, ints)

short_of : (high x : ℤ) (n : ℕ) → (high -ℤ x) ≡ pos n → x ≤ℤ (high -ℤ pos (suc n)) → ⊥
short_of high x n e h = omega (arith, ints)

short_none : (high x : ℤ) (n : ℕ) → (high -ℤ x) ≡ negsuc n → x ≤ℤ high → ⊥
short_none high x n e h = omega (arith, ints)

first_step : (low : ℤ) (x : ℤ) → low ≤ℤ x → (low +ℤ pos 0) ≤ℤ x
first_step low x h = omega (arith, ints)

next_step : (low x : ℤ) (n : ℕ) → ((low +ℤ pos n) +ℤ pos 1) ≤ℤ x → (low +ℤ pos (suc n)) ≤ℤ x
next_step low x n h = omega (arith, ints)

last_step : (high x : ℤ) → x ≤ℤ high → x ≤ℤ (high -ℤ pos 0)
last_step high x h = omega (arith, ints)

one_less : (high x : ℤ) (n : ℕ) → (x +ℤ pos 1) ≤ℤ (high -ℤ pos n) → x ≤ℤ (high -ℤ pos (suc n))
one_less high x n h = omega (arith, ints)

-- ---- a feature of a model with a valid configuration

module _ (first : FirstConfigurationsAreFound) (model : Model) (n : ℕ) (values : List ℤ) (valid : IsValid (plain model) values) where
  -- some valid configuration gives it at least this value, or each gives it less
  from_by : (v : ℤ) (found : Option Config) → Finds model (λ vs. int_le v (value_of n vs)) found → SomeFrom model n v ⊎ ((vs : List ℤ) → IsValid (plain model) vs → (value_of n vs +ℤ pos 1) ≤ℤ v)
  from_by v None h = inr (λ vs k. not_from v (value_of n vs) (h vs k))
  from_by v (Some config) h =
      inl (record { value = value_of n config.values; has = record { values = config.values; valid = h.valid; there = refl }; from = so_from v (value_of n config.values) h.met })

  from : (v : ℤ) → SomeFrom model n v ⊎ ((vs : List ℤ) → IsValid (plain model) vs → (value_of n vs +ℤ pos 1) ≤ℤ v)
  from v = let found = first model (λ vs. int_le v (value_of n vs)) in from_by v found.0 found.1

  -- some gives it at most this value, or each gives it more
  to_by : (v : ℤ) (found : Option Config) → Finds model (λ vs. int_le (value_of n vs) v) found → SomeTo model n v ⊎ ((vs : List ℤ) → IsValid (plain model) vs → (v +ℤ pos 1) ≤ℤ value_of n vs)
  to_by v None h = inr (λ vs k. not_from (value_of n vs) v (h vs k))
  to_by v (Some config) h =
      inl (record { value = value_of n config.values; has = record { values = config.values; valid = h.valid; there = refl }; to = so_from (value_of n config.values) v h.met })

  to : (v : ℤ) → SomeTo model n v ⊎ ((vs : List ℤ) → IsValid (plain model) vs → (v +ℤ pos 1) ≤ℤ value_of n vs)
  to v = let found = first model (λ vs. int_le (value_of n vs) v) in to_by v found.0 found.1

  -- ---- a switch

  switch_by : (f : Feature) → f.boolean ≡ true → SomeFrom model n (pos 1) ⊎ ((vs : List ℤ) → IsValid (plain model) vs → (value_of n vs +ℤ pos 1) ≤ℤ pos 1)
      → SomeTo model n (pos 0) ⊎ ((vs : List ℤ) → IsValid (plain model) vs → (pos 0 +ℤ pos 1) ≤ℤ value_of n vs) → (u : FeatureUse) × IsUse model n f u
  switch_by f e (inl on) (inl off) = (Free, (e, on, off))
  switch_by f e (inr never) off = (Dead, (e, λ vs k. less_one (value_of n vs) (never vs k)))
  switch_by f e (inl on) (inr all) = (Always, (e, λ vs k. from_one (value_of n vs) (all vs k)))

  -- ---- a number

  -- the least value, or each is at least so many steps above this one
  abbrev HasLeast : Type 0
  HasLeast = (low : ℤ) × IsLeast model n low

  least_at : (low : ℤ) (k : ℕ) → ((vs : List ℤ) → IsValid (plain model) vs → (low +ℤ pos k) ≤ℤ value_of n vs) → SomeTo model n (low +ℤ pos k) ⊎ ((vs : List ℤ) → IsValid (plain model) vs → ((low +ℤ pos k) +ℤ pos 1) ≤ℤ value_of n vs)
      → HasLeast ⊎ ((vs : List ℤ) → IsValid (plain model) vs → (low +ℤ pos (suc k)) ≤ℤ value_of n vs)
  least_at low k above (inl one) =
      let at : one.value ≡ (low +ℤ pos k) = at_both (low +ℤ pos k) one.value (subst (λ (x : ℤ). (low +ℤ pos k) ≤ℤ x) one.has.there (above one.has.values one.has.valid)) one.to in
      inl (low +ℤ pos k, record { has = record { values = one.has.values; valid = one.has.valid; there = one.has.there ∙ at }; least = above })
  least_at low k above (inr more) = inr (λ vs v. next_step low (value_of n vs) k (more vs v))

  least_by : (low : ℤ) (k : ℕ) → HasLeast ⊎ ((vs : List ℤ) → IsValid (plain model) vs → (low +ℤ pos k) ≤ℤ value_of n vs) → HasLeast ⊎ ((vs : List ℤ) → IsValid (plain model) vs → (low +ℤ pos (suc k)) ≤ℤ value_of n vs)
  least_by low k (inl least) = inl least
  least_by low k (inr above) = least_at low k above (to (low +ℤ pos k))

  least_within : (low : ℤ) → AllFrom model n low → (k : ℕ) → HasLeast ⊎ ((vs : List ℤ) → IsValid (plain model) vs → (low +ℤ pos k) ≤ℤ value_of n vs)
  least_within low all zero = inr (λ vs v. first_step low (value_of n vs) (all vs v))
  least_within low all (suc k) = least_by low k (least_within low all k)

  least_of : (low : ℤ) → AllFrom model n low → (d : ℤ) → (value_of n values -ℤ low) ≡ d → HasLeast
  least_of low all (pos k) e = elim (least_within low all (suc k)) [ inl least ↦ least | inr above ↦ absurd (past low (value_of n values) k e (above values valid)) ]
  least_of low all (negsuc k) e = absurd (past_none low (value_of n values) k e (all values valid))

  -- the greatest value, or each is at most so many steps below this one
  abbrev HasGreatest : Type 0
  HasGreatest = (high : ℤ) × IsGreatest model n high

  greatest_at : (high : ℤ) (k : ℕ) → ((vs : List ℤ) → IsValid (plain model) vs → value_of n vs ≤ℤ (high -ℤ pos k)) → SomeFrom model n (high -ℤ pos k) ⊎ ((vs : List ℤ) → IsValid (plain model) vs → (value_of n vs +ℤ pos 1) ≤ℤ (high -ℤ pos k))
      → HasGreatest ⊎ ((vs : List ℤ) → IsValid (plain model) vs → value_of n vs ≤ℤ (high -ℤ pos (suc k)))
  greatest_at high k below (inl one) =
      let at : (high -ℤ pos k) ≡ one.value = at_both one.value (high -ℤ pos k) (subst (λ (x : ℤ). x ≤ℤ (high -ℤ pos k)) one.has.there (below one.has.values one.has.valid)) one.from in
      inl (high -ℤ pos k, record { has = record { values = one.has.values; valid = one.has.valid; there = one.has.there ∙ sym at }; greatest = below })
  greatest_at high k below (inr less) = inr (λ vs v. one_less high (value_of n vs) k (less vs v))

  greatest_by : (high : ℤ) (k : ℕ) → HasGreatest ⊎ ((vs : List ℤ) → IsValid (plain model) vs → value_of n vs ≤ℤ (high -ℤ pos k)) → HasGreatest ⊎ ((vs : List ℤ) → IsValid (plain model) vs → value_of n vs ≤ℤ (high -ℤ pos (suc k)))
  greatest_by high k (inl greatest) = inl greatest
  greatest_by high k (inr below) = greatest_at high k below (from (high -ℤ pos k))

  greatest_within : (high : ℤ) → AllTo model n high → (k : ℕ) → HasGreatest ⊎ ((vs : List ℤ) → IsValid (plain model) vs → value_of n vs ≤ℤ (high -ℤ pos k))
  greatest_within high all zero = inr (λ vs v. last_step high (value_of n vs) (all vs v))
  greatest_within high all (suc k) = greatest_by high k (greatest_within high all k)

  greatest_of : (high : ℤ) → AllTo model n high → (d : ℤ) → (high -ℤ value_of n values) ≡ d → HasGreatest
  greatest_of high all (pos k) e = elim (greatest_within high all (suc k)) [ inl greatest ↦ greatest | inr below ↦ absurd (short_of high (value_of n values) k e (below values valid)) ]
  greatest_of high all (negsuc k) e = absurd (short_none high (value_of n values) k e (all values valid))

  number_by : (f : Feature) → f.boolean ≡ false → HasLeast → HasGreatest → (u : FeatureUse) × IsUse model n f u
  number_by f e least greatest = (Span least.0 greatest.0, (e, least.1, greatest.1))

  use_by : (f : Feature) → AllFrom model n f.low → AllTo model n f.high → (b : Bool) → f.boolean ≡ b → (u : FeatureUse) × IsUse model n f u
  use_by f low high true e = switch_by f e (from (pos 1)) (to (pos 0))
  use_by f low high false e = number_by f e (least_of f.low low (value_of n values -ℤ f.low) refl) (greatest_of f.high high (f.high -ℤ value_of n values) refl)

-- ---- all features

-- the value of a feature lies in its range
in_range : (fs : List Feature) (vs : List ℤ) (n : ℕ) (f : Feature) → IsWithin fs vs → slice_get fs n ≡ Some f → (f.low ≤ℤ value_of n vs) × (value_of n vs ≤ℤ f.high)
in_range [] vs n f w e = absurd cc
in_range (g ∷ gs) [] n f w e = absurd w
in_range (g ∷ gs) (v ∷ vs) zero f w e = let same : g ≡ f = cc in subst (λ (x : Feature). (x.low ≤ℤ v) × (v ≤ℤ x.high)) same (w.0, w.1)
in_range (g ∷ gs) (v ∷ vs) (suc n) f w e = in_range gs vs n f w.2 e

-- the features from a number on have uses
abbrev HaveUses : Model → ℕ → List Feature → Type 0
HaveUses model from features =
    (uses : List FeatureUse) × (length uses ≡ length features) × ((n : ℕ) (f : Feature) (u : FeatureUse) → slice_get features n ≡ Some f → slice_get uses n ≡ Some u → IsUse model (from + n) f u)

with_use : (model : Model) (from : ℕ) (f : Feature) (fs : List Feature) → (u : FeatureUse) × IsUse model from f u → HaveUses model (suc from) fs → HaveUses model from (f ∷ fs)
with_use model from f fs own behind = (own.0 ∷ behind.0, ap suc behind.1, each)
  where
    each : (n : ℕ) (g : Feature) (u : FeatureUse) → slice_get (f ∷ fs) n ≡ Some g → slice_get (own.0 ∷ behind.0) n ≡ Some u → IsUse model (from + n) g u
    each zero g u e k =
        let one : f ≡ g = cc in
        let two : own.0 ≡ u = cc in
        let place : from ≡ from + 0 = omega arith in
        subst (λ (m : ℕ). IsUse model m g u) place (subst (λ (x : Feature). IsUse model from x u) one (subst (λ (x : FeatureUse). IsUse model from f x) two own.1))
    each (suc n) g u e k = let place : suc from + n ≡ from + suc n = omega arith in subst (λ (m : ℕ). IsUse model m g u) place (behind.2 n g u e k)

all_uses : (model : Model) (from : ℕ) (fs : List Feature) → ((n : ℕ) (f : Feature) → slice_get fs n ≡ Some f → (u : FeatureUse) × IsUse model (from + n) f u) → HaveUses model from fs
all_uses model from [] h = ([], refl, λ n f u e k. absurd cc)
all_uses model from (f ∷ fs) h =
    let place : from + 0 ≡ from = omega arith in
    let own = h 0 f refl in
    with_use model from f fs (own.0, subst (λ (m : ℕ). IsUse model m f own.0) place own.1)
    (all_uses model (suc from) fs (λ n g e.
    let next = h (suc n) g e in
    let k : from + suc n ≡ suc from + n = omega arith in
    (next.0, subst (λ (m : ℕ). IsUse model m g next.0) k next.1)))

pub some_uses : FirstConfigurationsAreFound → (model : Model) (values : List ℤ) → IsValid (plain model) values → (uses : List FeatureUse) × AreUses model model.features uses
some_uses first model values valid =
    let all = all_uses model 0 model.features (λ n f e.
    let place : n ≡ 0 + n = omega arith in
    let low : AllFrom model n f.low = λ vs v. (in_range model.features vs n f (valid_parts (plain model) vs v).0 e).0 in
    let high : AllTo model n f.high = λ vs v. (in_range model.features vs n f (valid_parts (plain model) vs v).0 e).1 in
    let own = use_by first model n values valid f low high f.boolean refl in
    (own.0, subst (λ (m : ℕ). IsUse model m f own.0) place own.1)) in
    (all.0, record { count = all.1; each = λ n f u e k. let place : 0 + n ≡ n = omega arith in subst (λ (m : ℕ). IsUse model m f u) place (all.2 n f u e k) })

answer_by : AnswerLaws → (unknown : Unknown) (bytes : List ℕ) → ModelAnswer unknown bytes → (answer : Result Done Fault) × AnswersFeatures unknown bytes answer
answer_by laws unknown bytes (read model h) =
    let uses = some_uses laws.configurations model h.valid.0 h.valid.1 in
    (Ok (record { text = uses_text model.features uses.0; status = 0 }), (model, h.read, record { uses = uses.0; are = uses.1; text = refl; status = refl }))
answer_by laws unknown bytes (none given h) = (Err given, h)

-- what a model leaves open is answered
pub some_features : AnswerLaws → (unknown : Unknown) (bytes : List ℕ) → (answer : Result Done Fault) × AnswersFeatures unknown bytes answer
some_features laws unknown bytes = answer_by laws unknown bytes (some_model laws unknown bytes)
