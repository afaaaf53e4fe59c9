-- The values of valid configurations are in the ranges of the features.
use Rattle.std.proofs.Common.{◌≡◌, ℕ, zero, suc, ◌≤◌, ℤ, ◌≤ℤ◌, unsigned_abs, List, [], ◌∷◌, Some, sym, subst, arith}
use Rattle.std.specs.Prelude.{slice_get}
use Rattle.std.proofs.lemmas.Int.{ints}
use Rattle.linear_atoms.specs.declared.atoms.Feature.{Feature}
use Rattle.linear_atoms.specs.Atoms.{AreRanges, IsWithin}
use Rattle.cpp_conditions.specs.declared.models.Model.{Model}
use Rattle.cpp_conditions.specs.Validity.{plain, IsValid}
use Rattle.cpp_conditions.proofs.Within.{valid_parts}
use Rattle.linear_atoms.specs.declared.ranges.Span.{Span}
use Rattle.configuration_advice.specs.declared.ends.End.TheVariants.{Least, Greatest}
use Rattle.configuration_advice.specs.Ends.{HasEnd}
use Rattle.configuration_advice.specs.Uses.{value_of, Has, AllFrom, AllTo}

low_at : (fs : List Feature) (f : Feature) (n : ℕ) (values : List ℤ) → IsWithin fs values → slice_get fs n ≡ Some f → f.low ≤ℤ value_of n values
low_at [] f n values h e = absurd (cc)
low_at (x ∷ fs) f n [] h e = absurd h
low_at (x ∷ fs) f zero (v ∷ vs) h e = let p : x ≡ f = cc in subst (λ (y : Feature). y.low ≤ℤ v) p h.0
low_at (x ∷ fs) f (suc n) (v ∷ vs) h e = low_at fs f n vs h.2 e

high_at : (fs : List Feature) (f : Feature) (n : ℕ) (values : List ℤ) → IsWithin fs values → slice_get fs n ≡ Some f → value_of n values ≤ℤ f.high
high_at [] f n values h e = absurd (cc)
high_at (x ∷ fs) f n [] h e = absurd h
high_at (x ∷ fs) f zero (v ∷ vs) h e = let p : x ≡ f = cc in subst (λ (y : Feature). v ≤ℤ y.high) p h.1
high_at (x ∷ fs) f (suc n) (v ∷ vs) h e = high_at fs f n vs h.2 e

pub all_from_low : (model : Model) (f : Feature) (n : ℕ) → slice_get model.features n ≡ Some f → AllFrom model n f.low
all_from_low model f n e values v = low_at model.features f n values (valid_parts (plain model) values v).0 e

pub all_to_high : (model : Model) (f : Feature) (n : ℕ) → slice_get model.features n ≡ Some f → AllTo model n f.high
all_to_high model f n e values v = high_at model.features f n values (valid_parts (plain model) values v).0 e

-- the ends of a range are small
pub record AreSmallEnds (f : Feature) : Type 0 where
  pub low : unsigned_abs f.low ≤ 1048576
  pub high : unsigned_abs f.high ≤ 1048576

pub small_ends : (fs : List Feature) (f : Feature) (n : ℕ) → AreRanges fs → slice_get fs n ≡ Some f → AreSmallEnds f
small_ends [] f n r e = absurd (cc)
small_ends (x ∷ fs) f zero r e = let p : x ≡ f = cc in subst AreSmallEnds p (record { low = r.1; high = r.2 })
small_ends (x ∷ fs) f (suc n) r e = small_ends fs f n r.3 e

pub has_of : (model : Model) (n : ℕ) (values : List ℤ) (v : ℤ) → IsValid (plain model) values → v ≡ value_of n values → Has model n v
has_of model n values v h e = record { values = values; valid = h; there = sym e }

small_between : (low v high : ℤ) → unsigned_abs low ≤ 1048576 → unsigned_abs high ≤ 1048576 → low ≤ℤ v → v ≤ℤ high → unsigned_abs v ≤ 1048576
small_between low v high a b h k = omega (arith, ints)

size_of : (model : Model) (f : Feature) (n : ℕ) (values : List ℤ) (v : ℤ) → AreRanges model.features → IsValid (plain model) values → slice_get model.features n ≡ Some f → v ≡ value_of n values → unsigned_abs v ≤ 1048576
size_of model f n values v r h e k =
    let ends = small_ends model.features f n r e in
    subst (λ x. unsigned_abs x ≤ 1048576) (sym k) (small_between f.low (value_of n values) f.high ends.low ends.high (all_from_low model f n e values h) (all_to_high model f n e values h))

-- the span from a range's low end to a value that is met has the least one
pub least_in : (model : Model) (f : Feature) (n : ℕ) (values : List ℤ) (span : Span) → AreRanges model.features → IsValid (plain model) values → slice_get model.features n ≡ Some f → span.high ≡ value_of n values → span.low ≡ f.low → HasEnd Least model n span
least_in model f n values span r h e k m =
    let ends = small_ends model.features f n r e in
    record {
      small = record { low = subst (λ x. unsigned_abs x ≤ 1048576) (sym m) ends.low; high = size_of model f n values span.high r h e k };
      all = λ vs v. subst (λ x. x ≤ℤ value_of n vs) (sym m) (all_from_low model f n e vs v);
      has = has_of model n values span.high h k;
    }

-- the span from a value that is met to a range's high end has the greatest one
pub greatest_in : (model : Model) (f : Feature) (n : ℕ) (values : List ℤ) (span : Span) → AreRanges model.features → IsValid (plain model) values → slice_get model.features n ≡ Some f → span.low ≡ value_of n values → span.high ≡ f.high → HasEnd Greatest model n span
greatest_in model f n values span r h e k m =
    let ends = small_ends model.features f n r e in
    record {
      small = record { low = size_of model f n values span.low r h e k; high = subst (λ x. unsigned_abs x ≤ 1048576) (sym m) ends.high };
      has = has_of model n values span.low h k;
      all = λ vs v. subst (λ x. value_of n vs ≤ℤ x) (sym m) (all_to_high model f n e vs v);
    }
