-- The ends of clipped ranges of results.
use Rattle.std.proofs.Common.{◌≡◌, ◌*ℤ◌, inr, inl, ◌⊎◌, ◌≢◌, ℕ, zero, suc, ◌*◌, ◌/◌, ◌≤◌, ◌<◌, ℤ, pos, negsuc, ◌≤ℤ◌, int_lt, int_div, Bool, true, false, if◌then◌else◌, Some, None, refl, sym, subst, ◌∙◌, arith}
use Rattle.std.proofs.Math.Nat.{div-mul-le_self, mul-le-mul_left}
use Rattle.std.proofs.lemmas.Int.{ints, clamps}
use Rattle.std.proofs.lemmas.Bool.{false≢true}
use Rattle.std.specs.Int.{int_min, int_max}
use Rattle.std.specs.Ordering.{int_eq}
use Rattle.c_tree.specs.Value.{least, greatest, IsInt}
use Rattle.c_tree.specs.declared.tree.Op.TheVariants.{Mul, Div, Rem}
use Rattle.leaf_domain.specs.declared.range.Range.{Range}
use Rattle.leaf_domain.specs.Ranges.{Within, IsInInt, is_empty_range, range_of_ends, range_at, empty_range, whole_int, clip_of, exact, arithmetic_range}
use Rattle.range_laws.specs.Ends.{EndsAre}
use Rattle.range_laws.specs.Arithmetic.{IsResult}
use Rattle.range_laws.specs.Clips.{ClippedSumsAreExact, QuotientsFit, ClippedQuotientsAreResults, HighIsNoQuotient, EndsAreNoProducts}
use Rattle.range_laws.proofs.EndLemmas.{within_ends}
use Rattle.range_laws.proofs.ArithmeticEnds.{sums-exact, ends-results}

clipped_within : (k : ℤ) (r : Range) → Within k (clip_of r) → Within k r
clipped_within k r w = let (l, h) = within_ends k (int_max r.low least) (int_min r.high greatest) w in record { low = omega (arith, ints, clamps, l); high = omega (arith, ints, clamps, h) }

pub clipped-sums : ClippedSumsAreExact
clipped-sums op a b k o w = sums-exact op a b k o (clipped_within k (arithmetic_range op a b) w)

-- ---- quotients within `int`
div_small : (a k : ℕ) → 0 < k → a / k ≤ a
div_small a k p = omega (arith, div-mul-le_self a k, mul-le-mul_left (a / k) p)

div_half : (a k : ℕ) → 2 ≤ k → 2 * (a / k) ≤ a
div_half a k p = omega (arith, div-mul-le_self a k, mul-le-mul_left (a / k) p)

-- the quotient of two numbers of `int`
quotient_low : (n m : ℤ) → IsInt n → int_eq m (pos 0) ≡ false → least ≤ℤ int_div n m
quotient_low n (pos zero) h e = cc
quotient_low (pos a) (pos (suc k)) h e = omega (arith, ints)
quotient_low (pos a) (negsuc k) h e = omega (arith, ints, h.high, div_small a (suc k) (omega arith))
quotient_low (negsuc a) (pos (suc k)) h e = omega (arith, ints, h.low, div_small (suc a) (suc k) (omega arith))
quotient_low (negsuc a) (negsuc k) h e = omega (arith, ints)

over_least : (n : ℤ) → least ≤ℤ n → (n ≡ least → ⊥) → negsuc 2147483646 ≤ℤ n
over_least n h f = by_test (int_eq n least) refl
  where
    same : int_eq n least ≡ true → n ≡ least
    same e = grind (arith, ints)

    by_test : (t : Bool) → int_eq n least ≡ t → negsuc 2147483646 ≤ℤ n
    by_test true e = absurd (f (same e))
    by_test false e = grind (arith, ints)

quotient_high : (n m : ℤ) → IsInt n → int_eq m (pos 0) ≡ false → (n ≡ least → m ≡ negsuc 0 → ⊥) → int_div n m ≤ℤ greatest
quotient_high n (pos zero) h e f = cc
quotient_high (pos a) (pos (suc k)) h e f = omega (arith, ints, h.high, div_small a (suc k) (omega arith))
quotient_high (pos a) (negsuc k) h e f = omega (arith, ints)
quotient_high (negsuc a) (pos (suc k)) h e f = omega (arith, ints)
quotient_high (negsuc a) (negsuc (suc k)) h e f = omega (arith, ints, h.low, div_half (suc a) (suc (suc k)) (omega arith))
quotient_high (negsuc a) (negsuc zero) h e f = omega (arith, ints, over_least (negsuc a) h.low (λ g. f g refl))

told : (n m k : ℤ) → exact Div n m ≡ Some k → (int_eq m (pos 0) ≡ false) × (int_div n m ≡ k)
told n m k = by_test (int_eq m (pos 0))
  where
    by_test : (t : Bool) → (if t then None else Some (int_div n m)) ≡ Some k → (t ≡ false) × (int_div n m ≡ k)
    by_test true e = cc
    by_test false e = (refl, cc)

result_low : (a b : Range) (k : ℤ) → IsInInt a → IsResult Div a b k → least ≤ℤ k
result_low a b k i r =
    let (z, e) = told r.left r.right k r.told in
    subst (λ x. least ≤ℤ x) e (quotient_low r.left r.right (record { low = omega (arith, ints, i.low.low, r.left_within.low); high = omega (arith, ints, i.high.high, r.left_within.high) }) z)

result_high : (a b : Range) (k : ℤ) → IsInInt a → QuotientsFit a b → IsResult Div a b k → k ≤ℤ greatest
result_high a b k i f r =
    let (z, e) = told r.left r.right k r.told in
    subst (λ x. x ≤ℤ greatest) e (quotient_high r.left r.right (record { low = omega (arith, ints, i.low.low, r.left_within.low); high = omega (arith, ints, i.high.high, r.left_within.high) }) z
    (λ g h. f (subst (λ x. Within x a) g r.left_within) (subst (λ x. Within x b) h r.right_within)))

-- ---- the clipped range
-- a range between two ends that is not empty
record IsBetween (l h : ℤ) (r : Range) : Type 0 where
  order : l ≤ℤ h
  low : r.low ≡ l
  high : r.high ≡ h

between : (l h : ℤ) → is_empty_range (range_of_ends l h) ≡ false → IsBetween l h (range_of_ends l h)
between l h = by_test (int_lt h l) refl
  where
    by_test : (t : Bool) → int_lt h l ≡ t → is_empty_range (if t then empty_range else range_at l h) ≡ false → IsBetween l h (if t then empty_range else range_at l h)
    by_test true e f = absurd (false≢true (sym f))
    by_test false e f = record { order = omega (arith, ints, e); low = refl; high = refl }

not_crossed : (r : Range) → r.low ≤ℤ r.high → is_empty_range r ≡ false
not_crossed r p = grind (arith, ints)

-- ends that are within `int` stay
clipped_ends : (P : ℤ → Type 0) (r : Range) → EndsAre P r → ((k : ℤ) → P k → least ≤ℤ k) → is_empty_range (clip_of r) ≡ false → P (clip_of r).low × (((k : ℤ) → P k → k ≤ℤ greatest) → P (clip_of r).high)
clipped_ends P r f g e =
    let b = between (int_max r.low least) (int_min r.high greatest) e in
    let o : r.low ≤ℤ r.high = omega (arith, ints, clamps, b.order) in
    let (p, q) = f (not_crossed r o) in
    (subst P (sym (b.low ∙ low_stays r.low (g r.low p))) p, λ h. subst P (sym (b.high ∙ high_stays r.high (h r.high q))) q)
  where
    low_stays : (l : ℤ) → least ≤ℤ l → int_max l least ≡ l
    low_stays l h = omega (arith, ints, clamps, h)

    high_stays : (u : ℤ) → u ≤ℤ greatest → int_min u greatest ≡ u
    high_stays u h = omega (arith, ints, clamps, h)

div_not_rem : Div ≢ Rem
div_not_rem e = cc

pub clipped-quotients : ClippedQuotientsAreResults
clipped-quotients a b i e =
    let c = clipped_ends (IsResult Div a b) (arithmetic_range Div a b) (ends-results Div a b div_not_rem) (λ k r. result_low a b k i r) e in
    record { low = c.0; high = λ f. c.1 (λ k r. result_high a b k i f r) }

-- ---- ends of clipped ranges that are no results
minus_two_or_one : (m : ℤ) → Within m (range_at (negsuc 1) (negsuc 0)) → (m ≡ negsuc 1) ⊎ (m ≡ negsuc 0)
minus_two_or_one m w = by_test (int_eq m (negsuc 0)) refl
  where
    one : int_eq m (negsuc 0) ≡ true → m ≡ negsuc 0
    one e = grind (arith, ints)

    two : int_eq m (negsuc 0) ≡ false → m ≡ negsuc 1
    two e = let l = w.low in let h = w.high in grind (arith, ints)

    by_test : (t : Bool) → int_eq m (negsuc 0) ≡ t → (m ≡ negsuc 1) ⊎ (m ≡ negsuc 0)
    by_test true e = inr (one e)
    by_test false e = inl (two e)

no_quotient : IsResult Div (range_at least least) (range_at (negsuc 1) (negsuc 0)) greatest → ⊥
no_quotient r = by_right (minus_two_or_one r.right r.right_within)
  where
    only : r.left ≡ least
    only = omega (arith, ints, r.left_within.low, r.left_within.high)

    told_least : exact Div least r.right ≡ Some greatest
    told_least = subst (λ n. exact Div n r.right ≡ Some greatest) only r.told

    by_right : (r.right ≡ negsuc 1) ⊎ (r.right ≡ negsuc 0) → ⊥
    by_right (inl e) = let f : exact Div least (negsuc 1) ≡ Some greatest = subst (λ m. exact Div least m ≡ Some greatest) e told_least in let g : pos 1073741824 ≡ greatest = cc in omega (arith, ints, g)
    by_right (inr e) = let f : exact Div least (negsuc 0) ≡ Some greatest = subst (λ m. exact Div least m ≡ Some greatest) e told_least in let g : pos 2147483648 ≡ greatest = cc in omega (arith, ints, g)

pub high-no-quotient : HighIsNoQuotient
high-no-quotient = record { clipped = refl; high = no_quotient }

times_three : (k : ℤ) → IsResult Mul (range_at (pos 3) (pos 3)) whole_int k → (m : ℤ) × (pos 3 *ℤ m ≡ k)
times_three k r = (r.right, product)
  where
    three : r.left ≡ pos 3
    three = omega (arith, ints, r.left_within.low, r.left_within.high)

    told_three : exact Mul (pos 3) r.right ≡ Some k
    told_three = subst (λ n. exact Mul n r.right ≡ Some k) three r.told

    product : pos 3 *ℤ r.right ≡ k
    product = let f = told_three in cc

not_least : (m : ℤ) → pos 3 *ℤ m ≡ least → ⊥
not_least m e = omega (arith, ints, e)

not_greatest : (m : ℤ) → pos 3 *ℤ m ≡ greatest → ⊥
not_greatest m e = omega (arith, ints, e)

pub ends-no-products : EndsAreNoProducts
ends-no-products = record {
  clipped = refl;
  low = λ r. let (m, e) = times_three least r in not_least m e;
  high = λ r. let (m, e) = times_three greatest r in not_greatest m e;
}
