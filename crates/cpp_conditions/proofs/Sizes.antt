-- Sizes of numbers and forms.
use Rattle.std.proofs.Common.{◌≡◌, ℕ, suc, ◌≤◌, ◌<◌, nat_le, ℤ, pos, negsuc, neg_ℤ, ◌*ℤ◌, unsigned_abs, Bool, true, false, ◌&&◌, if◌then◌else◌, List, [], ◌∷◌, length, Option, Some, None, option_map, refl, sym, ap, ◌∙◌, arith, FitsSigned, to_z, of_z, w64}
use Rattle.std.proofs.lemmas.Bool.{false≢true}
use Rattle.std.proofs.lemmas.Int.{ints, to_z-of_z}
use Rattle.std.specs.Ordering.{int_eq}
use Rattle.std.specs.Str.{bytes_eq}
use Rattle.linear_atoms.specs.declared.atoms.Feature.{Feature}
use Rattle.linear_atoms.specs.declared.forms.Linear.{Linear}
use Rattle.linear_atoms.specs.Forms.{one, terms_by, constant_form, feature_form, form_sum, form_by, is_small, are_small, is_small_form}
use Rattle.linear_terms.proofs.Bounds.{terms_sum_below, terms_by_below}
use Rattle.linear_terms.proofs.Merges.{within_append}
use Rattle.linear_terms.proofs.Sums.{is_zero, terms_sum_rises, terms_by_rises}
use Rattle.cpp_conditions.specs.Expressions.{found}
use Rattle.cpp_conditions.specs.Forming.{IsOver, IsSmallOver}
use Rattle.cpp_conditions.specs.Meaning.{difference}
use Rattle.cpp_conditions.proofs.Signs.{minus_one}

-- ---- truth values

pub and_true : (a b : Bool) → a ≡ true → b ≡ true → (a && b) ≡ true
and_true true b p q = q
and_true false b p q = absurd (false≢true p)

pub and_left : (a b : Bool) → (a && b) ≡ true → a ≡ true
and_left true b e = refl
and_left false b e = e

pub and_right : (a b : Bool) → (a && b) ≡ true → b ≡ true
and_right true b e = e
and_right false b e = absurd (false≢true e)

pub false_left : (a b : Bool) → a ≡ false → (a && b) ≡ false
false_left true b e = absurd (false≢true (sym e))
false_left false b e = refl

pub false_right : (a b : Bool) → b ≡ false → (a && b) ≡ false
false_right true b e = e
false_right false b e = refl

-- ---- small numbers fit

small_number_fits : (n : ℤ) → is_small n ≡ true → FitsSigned w64 n
small_number_fits n e = let h : unsigned_abs n ≤ 2147483648 = grind arith in omega (arith, ints)

small_fits : (a : Linear) → is_small_form a ≡ true → FitsSigned w64 a.constant
small_fits a e = small_number_fits a.constant (and_right (are_small a.terms) (is_small a.constant) e)

pub small_back : (a : Linear) → is_small_form a ≡ true → to_z w64 (of_z w64 a.constant) ≡ a.constant
small_back a e = to_z-of_z w64 a.constant (small_fits a e)

-- ---- multiples by -1 have the same sizes

small_zero : (a : ℤ) → a ≡ pos 0 → true ≡ is_small a
small_zero a e = ap is_small (sym e)

and_same : (b : Bool) → (b && true) ≡ b
and_same true = refl
and_same false = refl

small_one_by : (v : Bool) (n : ℕ) (a : ℤ) → int_eq a (pos 0) ≡ v → are_small (if v then [] else (n, a) ∷ []) ≡ is_small a
small_one_by true n a e = small_zero a (is_zero a e)
small_one_by false n a e = and_same (is_small a)

small_one : (n : ℕ) (a : ℤ) → are_small (one n a) ≡ is_small a
small_one n a = small_one_by (int_eq a (pos 0)) n a refl

size_negated : (a : ℤ) → unsigned_abs (neg_ℤ a) ≡ unsigned_abs a
size_negated a = omega (arith, ints)

small_negated_number : (a : ℤ) → is_small (a *ℤ negsuc 0) ≡ is_small a
small_negated_number a = ap is_small (minus_one a) ∙ ap (λ (n : ℕ). nat_le n 2147483648) (size_negated a)

pub small_negated_terms : (ts : List (ℕ × ℤ)) → are_small (terms_by (negsuc 0) ts) ≡ are_small ts
small_negated_terms [] = refl
small_negated_terms (t ∷ ts) =
    within_append 2147483648 (one t.0 (t.1 *ℤ negsuc 0)) (terms_by (negsuc 0) ts)
    ∙ ap (λ (v : Bool). v && are_small (terms_by (negsuc 0) ts)) (small_one t.0 (t.1 *ℤ negsuc 0) ∙ small_negated_number t.1)
    ∙ ap (λ (v : Bool). is_small t.1 && v) (small_negated_terms ts)

pub small_negated : (a : Linear) → is_small_form (form_by (negsuc 0) a) ≡ is_small_form a
small_negated a =
    ap (λ (v : Bool). v && is_small (a.constant *ℤ negsuc 0)) (small_negated_terms a.terms)
    ∙ ap (λ (v : Bool). are_small a.terms && v) (small_negated_number a.constant)

-- ---- features' numbers

module _ (fs : List Feature) where
  pub over_constant : (n : ℤ) → IsOver fs (constant_form n)
  over_constant n = record { rising = tt; below = tt }

  pub over_feature : (n : ℕ) → n < length fs → IsOver fs (feature_form n)
  over_feature n h = record { rising = (omega arith, (λ e. cc), tt); below = (h, tt) }

  pub over_by : (k : ℤ) (a : Linear) → IsOver fs a → IsOver fs (form_by k a)
  over_by k a o = record { rising = terms_by_rises k 0 a.terms o.rising; below = terms_by_below k (length fs) a.terms o.below }

  pub over_sum : (a b : Linear) → IsOver fs a → IsOver fs b → IsOver fs (form_sum a b)
  over_sum a b o p = record { rising = terms_sum_rises 0 a.terms b.terms o.rising p.rising; below = terms_sum_below (length fs) a.terms b.terms o.below p.below }

  pub over_difference : (a b : Linear) → IsOver fs a → IsOver fs b → IsOver fs (difference a b)
  over_difference a b o p = over_sum a (form_by (negsuc 0) b) o (over_by (negsuc 0) b p)

  pub over_small : (a : Linear) → IsSmallOver fs a → IsOver fs a
  over_small a o = record { rising = o.rising; below = o.below }

-- ---- the number of a name is one of a feature

some_same : (m n : ℕ) → Some m ≡ Some n → m ≡ n
some_same m n e = cc

found_later : (o : Option ℕ) (n : ℕ) (fs : List Feature) (f : Feature) → ((m : ℕ) → o ≡ Some m → m < length fs) → option_map suc o ≡ Some n → n < length (f ∷ fs)
found_later None n fs f h e = absurd cc
found_later (Some m) n fs f h e = let k = h m refl in let s : suc m ≡ n = some_same (suc m) n e in omega arith

found_by : (name : List ℕ) (fs : List Feature) (n : ℕ) (v : Bool) (f : Feature) → ((m : ℕ) → found name fs ≡ Some m → m < length fs) → (if v then Some 0 else option_map suc (found name fs)) ≡ Some n → n < length (f ∷ fs)
found_by name fs n true f h e = let z : n ≡ 0 = some_same n 0 (sym e) in omega arith
found_by name fs n false f h e = found_later (found name fs) n fs f h e

pub found_below : (name : List ℕ) (fs : List Feature) (n : ℕ) → found name fs ≡ Some n → n < length fs
found_below name [] n e = absurd cc
found_below name (f ∷ fs) n e = found_by name fs n (bytes_eq f.name name) f (found_below name fs) e
