-- The ends of remainders that are results.
use Rattle.std.proofs.Common.{◌≡◌, ◌≢◌, ◌⊎◌, inl, inr, ◌<◌, ℤ, pos, negsuc, neg_ℤ, ◌-ℤ◌, ◌≤ℤ◌, ◌<ℤ◌, int_lt, int_le, int_rem, unsigned_abs, Bool, true, false, ◌&&◌, ◌||◌, if◌then◌else◌, Some, None, refl, sym, ap, subst, ◌∙◌, arith}
use Rattle.std.proofs.Math.Nat.{mod-eq_of_lt}
use Rattle.std.proofs.lemmas.Int.{ints, clamps}
use Rattle.std.specs.Int.{int_min, int_max}
use Rattle.std.specs.Ordering.{int_eq}
use Rattle.c_tree.specs.Value.{least}
use Rattle.c_tree.specs.declared.tree.Op.TheVariants.{Rem}
use Rattle.leaf_domain.specs.declared.range.Range.{Range}
use Rattle.leaf_domain.specs.Ranges.{Within, range_at, is_empty_range, empty_range, is_single, is_zero_range, is_smaller_of, size_of, greatest_size_of, least_divisor_of, low_left_of, high_left_of, remainder_of_singles, bounded_remainders, remainders_of, exact, arithmetic_range}
use Rattle.leaf_domain.proofs.ArithmeticLemmas.{rem_is_left}
use Rattle.range_laws.specs.Ends.{EndsAre}
use Rattle.range_laws.specs.Arithmetic.{IsResult}
use Rattle.range_laws.specs.Remainders.{RemainderEndsAreResults, SingleRemaindersAreResults, RemaindersAreLeast, SomeRemaindersAreNotLeast}
use Rattle.range_laws.proofs.EndLemmas.{some, low_in, high_in, ends_none, least_by_ends}

-- ---- a number that is its own remainder
rem_of_smaller : (n m : ℤ) → unsigned_abs n < unsigned_abs m → int_rem n m ≡ n
rem_of_smaller (pos a) m h = ap pos (mod-eq_of_lt h)
rem_of_smaller (negsuc a) m h = ap (λ k. neg_ℤ (pos k)) (mod-eq_of_lt h)

nonzero : (n m : ℤ) → unsigned_abs n < unsigned_abs m → int_eq m (pos 0) ≡ false
nonzero n m h = grind (arith, ints)

fits : (n m : ℤ) → unsigned_abs n < unsigned_abs m → n ≡ least → m ≡ negsuc 0 → ⊥
fits n m h e f = let g : unsigned_abs n ≡ 2147483648 = ap unsigned_abs e in let k : unsigned_abs m ≡ 1 = ap unsigned_abs f in absurd (omega (arith, h, g, k))

itself : (a b : Range) (n m : ℤ) → Within n a → Within m b → unsigned_abs n < unsigned_abs m → IsResult Rem a b n
itself a b n m v w h = record {
  left = n;
  right = m;
  left_within = v;
  right_within = w;
  told = ap (λ t. if t then None else Some (int_rem n m)) (nonzero n m h) ∙ ap Some (rem_of_smaller n m h);
  goes_on = λ _. fits n m h;
}

-- ---- the divisor of the greatest size
record IsGreatest (b : Range) : Type 0 where
  divisor : ℤ
  within : Within divisor b
  size : size_of divisor ≡ greatest_size_of b

greatest_divisor : (b : Range) → b.low ≤ℤ b.high → IsGreatest b
greatest_divisor b q = by_test (int_lt (size_of b.high) (size_of b.low)) refl
  where
    by_test : (t : Bool) → int_lt (size_of b.high) (size_of b.low) ≡ t → IsGreatest b
    by_test true e = record { divisor = b.low; within = low_in b q; size = sym (ap (λ t. if t then size_of b.low else size_of b.high) e) }
    by_test false e = record { divisor = b.high; within = high_in b q; size = sym (ap (λ t. if t then size_of b.low else size_of b.high) e) }

by_size : (a b : Range) (n : ℤ) → b.low ≤ℤ b.high → size_of n <ℤ greatest_size_of b → Within n a → IsResult Rem a b n
by_size a b n q h w = let g = greatest_divisor b q in itself a b n g.divisor w g.within (omega (arith, ints, h, g.size))

-- ---- sizes of the ends
some_size : (b : Range) → is_zero_range b ≡ false → pos 1 ≤ℤ greatest_size_of b
some_size b e = grind (arith, ints, clamps)

divisor_sizes : (b : Range) → b.low ≤ℤ b.high → is_zero_range b ≡ false → least_divisor_of b ≤ℤ greatest_size_of b
divisor_sizes b q e = let h = some_size b e in grind (arith, ints, clamps)

low_size : (l g : ℤ) → pos 1 ≤ℤ g → size_of (low_left_of l (g -ℤ pos 1)) <ℤ g
low_size l g h = by_test (int_le (pos 0) l) refl
  where
    by_test : (t : Bool) → int_le (pos 0) l ≡ t → size_of (if t then pos 0 else int_max l (neg_ℤ (g -ℤ pos 1))) <ℤ g
    by_test true e = omega (arith, ints, h)
    by_test false e = omega (arith, ints, clamps, h, e)

high_size : (u g : ℤ) → pos 1 ≤ℤ g → size_of (high_left_of u (g -ℤ pos 1)) <ℤ g
high_size u g h = by_test (int_le u (pos 0)) refl
  where
    by_test : (t : Bool) → int_le u (pos 0) ≡ t → size_of (if t then pos 0 else int_min u (g -ℤ pos 1)) <ℤ g
    by_test true e = omega (arith, ints, h)
    by_test false e = omega (arith, ints, clamps, h, e)

smaller_size : (a b : Range) (n : ℤ) → Within n a → is_smaller_of a b ≡ true → least_divisor_of b ≤ℤ greatest_size_of b → size_of n <ℤ greatest_size_of b
smaller_size a b n w e h = chain (size_of n) (greatest_size_of a) (least_divisor_of b) (greatest_size_of b) (omega (arith, ints, clamps, w.low, w.high)) e h
  where
    chain : (i j k l : ℤ) → i ≤ℤ j → int_lt j k ≡ true → k ≤ℤ l → i <ℤ l
    chain i j k l p q r = omega (arith, ints, p, q, r)

-- ---- two single numbers
both_single : (a b : Range) → (is_single a && is_single b) ≡ true → (a.low ≡ a.high) × (b.low ≡ b.high)
both_single a b e = grind (arith, ints)

single_nonzero : (b : Range) → b.low ≡ b.high → is_zero_range b ≡ false → int_eq b.low (pos 0) ≡ false
single_nonzero b f e = grind (arith, ints)

goes_on : (n m : ℤ) → (int_eq n least && int_eq m (negsuc 0)) ≡ false → n ≡ least → m ≡ negsuc 0 → ⊥
goes_on n m e f g = grind (arith, ints)

ends_single : (a b : Range) → a.low ≤ℤ a.high → b.low ≤ℤ b.high → is_zero_range b ≡ false → (is_single a && is_single b) ≡ true → EndsAre (IsResult Rem a b) (remainder_of_singles a.low b.low)
ends_single a b p q z s = by_test (int_eq a.low least && int_eq b.low (negsuc 0)) refl
  where
    left : (int_eq a.low least && int_eq b.low (negsuc 0)) ≡ false → IsResult Rem a b (int_rem a.low b.low)
    left e = record {
      left = a.low;
      right = b.low;
      left_within = low_in a p;
      right_within = low_in b q;
      told = ap (λ t. if t then None else Some (int_rem a.low b.low)) (single_nonzero b (both_single a b s).1 z);
      goes_on = λ _. goes_on a.low b.low e;
    }

    by_test : (t : Bool) → (int_eq a.low least && int_eq b.low (negsuc 0)) ≡ t → EndsAre (IsResult Rem a b) (if t then empty_range else range_at (int_rem a.low b.low) (int_rem a.low b.low))
    by_test true e = ends_none (IsResult Rem a b)
    by_test false e = λ _. (left e, left e)

-- ---- all cases
abbrev Own : Range → Range → ℤ → Type 0
Own a b e = Within e a → IsResult Rem a b e

ends_own : (a b : Range) → a.low ≤ℤ a.high → b.low ≤ℤ b.high → EndsAre (Own a b) (remainders_of a b)
ends_own a b p q = by_tests (is_zero_range b) (is_single a && is_single b) (is_smaller_of a b) refl refl refl
  where
    by_tests : (t u v : Bool) → is_zero_range b ≡ t → (is_single a && is_single b) ≡ u → is_smaller_of a b ≡ v → EndsAre (Own a b) (if t then empty_range else (if u then remainder_of_singles a.low b.low else (if v then a else bounded_remainders a b)))
    by_tests true u v e f g = ends_none (Own a b)
    by_tests false true v e f g = λ n. let r = ends_single a b p q e f n in (λ _. r.0, λ _. r.1)
    by_tests false false true e f g = λ _. (
      λ w. by_size a b a.low q (smaller_size a b a.low w g (divisor_sizes b q e)) w,
      λ w. by_size a b a.high q (smaller_size a b a.high w g (divisor_sizes b q e)) w,
    )
    by_tests false false false e f g = λ _. (
      by_size a b (low_left_of a.low (greatest_size_of b -ℤ pos 1)) q (low_size a.low (greatest_size_of b) (some_size b e)),
      by_size a b (high_left_of a.high (greatest_size_of b -ℤ pos 1)) q (high_size a.high (greatest_size_of b) (some_size b e)),
    )

over_some : (P : ℤ → Type 0) (a b : Range) → (a.low ≤ℤ a.high → b.low ≤ℤ b.high → EndsAre P (remainders_of a b)) → EndsAre P (arithmetic_range Rem a b)
over_some P a b f = by_tests (is_empty_range a) (is_empty_range b) refl refl
  where
    by_tests : (t u : Bool) → is_empty_range a ≡ t → is_empty_range b ≡ u → EndsAre P (if t || u then empty_range else remainders_of a b)
    by_tests true u d e = ends_none P
    by_tests false true d e = ends_none P
    by_tests false false d e = f (some a d) (some b e)

pub remainder-ends : RemainderEndsAreResults
remainder-ends a b = over_some (Own a b) a b (ends_own a b)

single_remainders : (a b : Range) → (is_single a && is_single b) ≡ true → a.low ≤ℤ a.high → b.low ≤ℤ b.high → EndsAre (IsResult Rem a b) (remainders_of a b)
single_remainders a b s p q = by_tests (is_zero_range b) (is_single a && is_single b) refl s refl
  where
    by_tests : (t u : Bool) → is_zero_range b ≡ t → u ≡ true → (is_single a && is_single b) ≡ u → EndsAre (IsResult Rem a b) (if t then empty_range else (if u then remainder_of_singles a.low b.low else (if is_smaller_of a b then a else bounded_remainders a b)))
    by_tests true u e f g = ends_none (IsResult Rem a b)
    by_tests false true e f g = ends_single a b p q e g
    by_tests false false e f g = cc

pub single-ends : SingleRemaindersAreResults
single-ends a b e f = over_some (IsResult Rem a b) a b (single_remainders a b (ap (λ t. t && is_single b) e ∙ f))

-- ---- where the left operand has 0, each end is one of its numbers
apart : (m : ℤ) → int_eq m (pos 0) ≡ false → m ≢ pos 0
apart m e f = grind (arith, ints)

low_inside : (l h g : ℤ) → l ≤ℤ pos 0 → pos 0 ≤ℤ h → pos 1 ≤ℤ g → (l ≤ℤ low_left_of l (g -ℤ pos 1)) × (low_left_of l (g -ℤ pos 1) ≤ℤ h)
low_inside l h g p q r = by_test (int_le (pos 0) l)
  where
    by_test : (t : Bool) → (l ≤ℤ (if t then pos 0 else int_max l (neg_ℤ (g -ℤ pos 1)))) × ((if t then pos 0 else int_max l (neg_ℤ (g -ℤ pos 1))) ≤ℤ h)
    by_test true = (p, q)
    by_test false = (omega (arith, ints, clamps), omega (arith, ints, clamps, p, q, r))

high_inside : (l h g : ℤ) → l ≤ℤ pos 0 → pos 0 ≤ℤ h → pos 1 ≤ℤ g → (l ≤ℤ high_left_of h (g -ℤ pos 1)) × (high_left_of h (g -ℤ pos 1) ≤ℤ h)
high_inside l h g p q r = by_test (int_le h (pos 0))
  where
    by_test : (t : Bool) → (l ≤ℤ (if t then pos 0 else int_min h (g -ℤ pos 1))) × ((if t then pos 0 else int_min h (g -ℤ pos 1)) ≤ℤ h)
    by_test true = (p, q)
    by_test false = (omega (arith, ints, clamps, p, q, r), omega (arith, ints, clamps))

single_inside : (a b : Range) → Within (pos 0) a → a.low ≤ℤ a.high → int_eq b.low (pos 0) ≡ false → EndsAre (λ e. Within e a) (remainder_of_singles a.low b.low)
single_inside a b w p z = by_test (int_eq a.low least && int_eq b.low (negsuc 0))
  where
    left : Within (int_rem a.low b.low) a
    left = let i = rem_is_left a.low b.low (apart b.low z) in record { low = omega (arith, ints, clamps, i.low, w.low); high = omega (arith, ints, clamps, i.high, w.high, p) }

    by_test : (t : Bool) → EndsAre (λ e. Within e a) (if t then empty_range else range_at (int_rem a.low b.low) (int_rem a.low b.low))
    by_test true = ends_none (λ e. Within e a)
    by_test false = λ _. (left, left)

ends_inside : (a b : Range) → Within (pos 0) a → a.low ≤ℤ a.high → b.low ≤ℤ b.high → EndsAre (λ e. Within e a) (remainders_of a b)
ends_inside a b w p q = by_tests (is_zero_range b) (is_single a && is_single b) (is_smaller_of a b) refl refl
  where
    bounded : is_zero_range b ≡ false → Within (bounded_remainders a b).low a × Within (bounded_remainders a b).high a
    bounded e =
        let l = low_inside a.low a.high (greatest_size_of b) w.low w.high (some_size b e) in
        let h = high_inside a.low a.high (greatest_size_of b) w.low w.high (some_size b e) in
        (record { low = l.0; high = l.1 }, record { low = h.0; high = h.1 })

    by_tests : (t u v : Bool) → is_zero_range b ≡ t → (is_single a && is_single b) ≡ u → EndsAre (λ e. Within e a) (if t then empty_range else (if u then remainder_of_singles a.low b.low else (if v then a else bounded_remainders a b)))
    by_tests true u v e f = ends_none (λ i. Within i a)
    by_tests false true v e f = single_inside a b w p (single_nonzero b (both_single a b f).1 e)
    by_tests false false true e f = λ _. (low_in a p, high_in a p)
    by_tests false false false e f = λ _. bounded e

pub remainders-least : RemaindersAreLeast
remainders-least a b w = least_by_ends (IsResult Rem a b) (arithmetic_range Rem a b) ends
  where
    ends : EndsAre (IsResult Rem a b) (arithmetic_range Rem a b)
    ends e = let f = remainder-ends a b e in let g = over_some (λ i. Within i a) a b (ends_inside a b w) e in (f.0 g.0, f.1 g.1)

-- ---- the remainders of 4 and 5 by 3
four_or_five : (n : ℤ) → Within n (range_at (pos 4) (pos 5)) → (n ≡ pos 4) ⊎ (n ≡ pos 5)
four_or_five n w = by_test (int_eq n (pos 4)) refl
  where
    four : int_eq n (pos 4) ≡ true → n ≡ pos 4
    four e = grind (arith, ints)

    five : int_eq n (pos 4) ≡ false → n ≡ pos 5
    five e = let l = w.low in let h = w.high in grind (arith, ints)

    by_test : (t : Bool) → int_eq n (pos 4) ≡ t → (n ≡ pos 4) ⊎ (n ≡ pos 5)
    by_test true e = inl (four e)
    by_test false e = inr (five e)

one_or_two : (k : ℤ) → IsResult Rem (range_at (pos 4) (pos 5)) (range_at (pos 3) (pos 3)) k → Within k (range_at (pos 1) (pos 2))
one_or_two k r = by_left (four_or_five r.left r.left_within)
  where
    three : r.right ≡ pos 3
    three = omega (arith, ints, r.right_within.low, r.right_within.high)

    told : exact Rem r.left (pos 3) ≡ Some k
    told = subst (λ m. exact Rem r.left m ≡ Some k) three r.told

    by_left : (r.left ≡ pos 4) ⊎ (r.left ≡ pos 5) → Within k (range_at (pos 1) (pos 2))
    by_left (inl e) = let f : exact Rem (pos 4) (pos 3) ≡ Some k = subst (λ n. exact Rem n (pos 3) ≡ Some k) e told in let g : pos 1 ≡ k = cc in record { low = omega (arith, ints, g); high = omega (arith, ints, g) }
    by_left (inr e) = let f : exact Rem (pos 5) (pos 3) ≡ Some k = subst (λ n. exact Rem n (pos 3) ≡ Some k) e told in let g : pos 2 ≡ k = cc in record { low = omega (arith, ints, g); high = omega (arith, ints, g) }

pub some-not-least : SomeRemaindersAreNotLeast
some-not-least h =
    let w = h (range_at (pos 1) (pos 2)) one_or_two (pos 0) (record { low = omega (arith, ints); high = omega (arith, ints) }) in
    absurd (omega (arith, ints, w.low))
