-- The tests of values: how many, and that they are well formed and open.
use Rattle.std.proofs.Common.{◌≡◌, ℕ, zero, suc, ◌+◌, ◌<◌, ◌≤◌, ◌≢◌, ℤ, pos, negsuc, ◌+ℤ◌, ◌*ℤ◌, ◌≤ℤ◌, ◌<ℤ◌, int_le, int_lt, unsigned_abs, Bool, true, false, if◌then◌else◌, List, [], ◌∷◌, ◌++◌, length, get_or, map, Option, Some, None, refl, ap, subst, sym, ◌∙◌, arith}
use Rattle.std.specs.List.{All}
use Rattle.std.proofs.lemmas.Int.{ints}
use Rattle.std.proofs.lemmas.List.{length-append}
use Rattle.std.proofs.lemmas.List.Elements.{All-nil, All-cons, All-head, All-tail, All-append}
use Rattle.linear_atoms.specs.declared.atoms.Atom.{Atom}
use Rattle.linear_atoms.specs.declared.atoms.Feature.{Feature}
use Rattle.linear_atoms.specs.Atoms.{AreRanges, IsAtom, IsDecided}
use Rattle.linear_atoms.specs.Divisors.{common_divisor}
use Rattle.linear_atoms.specs.Ranges.{extreme_at, decided_of}
use Rattle.linear_atoms.proofs.Extremes.{decided_so}
use Rattle.cpp_conditions.specs.Propositions.{Proposition, Test, IsFit, IsOpen}
use Rattle.feature_values.specs.declared.feature_uses.Use.{Use}
use Rattle.feature_values.specs.Laws.{TestsAreCounted, TestsAreFit, TestsAreOpen}
use Rattle.feature_values.specs.Values.{AreUses, low_at, width_at, value_test, tests_above, tests_of, test_count}
use Rattle.feature_values.proofs.Ranges.{AreSmall, small_at, above_low}

-- ---- how many

pub length-above : (n : ℕ) (low : ℤ) (count : ℕ) → length (tests_above n low count) ≡ count
length-above n low zero = refl
length-above n low (suc count) = ap suc (length-above n (low +ℤ pos 1) count)

pub length-tests : TestsAreCounted
length-tests features [] = refl
length-tests features (u ∷ us) =
    length-append (tests_above u.feature (low_at features u.feature) (width_at features u.feature)) (tests_of features us)
    ∙ ap (λ (n : ℕ). n + length (tests_of features us)) (length-above u.feature (low_at features u.feature) (width_at features u.feature))
    ∙ ap (λ (n : ℕ). width_at features u.feature + n) (length-tests features us)

-- ---- well formed

not_zero : pos 1 ≢ pos 0
not_zero e = absurd cc

one_divides : (n : ℕ) → common_divisor ((n, pos 1) ∷ []) ≡ 1
unfolding common_divisor
one_divides n = refl

bounded : (k : ℤ) → (negsuc 1048575) ≤ℤ k → k ≤ℤ pos 1048576 → unsigned_abs k ≤ 2147483649
bounded (pos n) h l = omega (arith, ints)
bounded (negsuc n) h l = omega (arith, ints)

pub is_atom : (count n : ℕ) (k : ℤ) → n < count → unsigned_abs k ≤ 2147483649 → IsAtom count (value_test n k)
is_atom count n k h b = record {
  rising = (omega arith, not_zero, tt);
  coprime = one_divides n;
  small = refl;
  positive = omega (arith, ints);
  below = (h, tt);
  bounded = b;
}

-- what holds of the test of each number from above the low up to the high holds of all tests of a feature
each_above : (P : Proposition Atom → Type 0) (n : ℕ) (low : ℤ) (count : ℕ) → ((k : ℤ) → low <ℤ k → k ≤ℤ (low +ℤ pos count) → P (Test (value_test n k))) → All P (tests_above n low count)
each_above P n low zero h = All-nil P
each_above P n low (suc count) h =
    All-cons P (Test (value_test n (low +ℤ pos 1))) (tests_above n (low +ℤ pos 1) count) (h (low +ℤ pos 1) (omega (arith, ints)) (omega (arith, ints)))
    (each_above P n (low +ℤ pos 1) count (λ k g l. h k (omega (arith, ints)) (omega (arith, ints))))

each_test : (P : Proposition Atom → Type 0) (features : List Feature) (us : List Use) → AreUses features us
    → ((n : ℕ) (k : ℤ) → n < length features → low_at features n <ℤ k → k ≤ℤ (low_at features n +ℤ pos (width_at features n)) → P (Test (value_test n k))) → All P (tests_of features us)
each_test P features [] u h = All-nil P
each_test P features (x ∷ us) u h =
    All-append P (tests_above x.feature (low_at features x.feature) (width_at features x.feature)) (tests_of features us)
    (each_above P x.feature (low_at features x.feature) (width_at features x.feature) (λ k g l. h x.feature k (All-head (λ (y : Use). y.feature < length features) x us u) g l))
    (each_test P features us (All-tail (λ (y : Use). y.feature < length features) x us u) h)

fit_at : (features : List Feature) (n : ℕ) (k : ℤ) → AreRanges features → n < length features → low_at features n <ℤ k → k ≤ℤ (low_at features n +ℤ pos (width_at features n)) → IsAtom (length features) (value_test n k)
fit_at features n k r l g h =
    let s : AreSmall (low_at features n) (width_at features n) = small_at features n r in
    let a : (negsuc 1048575) ≤ℤ low_at features n = s.least in
    let b : (low_at features n +ℤ pos (width_at features n)) ≤ℤ pos 1048576 = s.greatest in
    is_atom (length features) n k l (bounded k (omega (arith, ints)) (omega (arith, ints)))

pub tests_fit : TestsAreFit
tests_fit features us r u = each_test (IsFit (length features)) features us u (λ n k l g h. fit_at features n k r l g h)

-- ---- open

high_at : (features : List Feature) (n : ℕ) → AreRanges features → n < length features → extreme_at true (pos 1) features n ≡ low_at features n +ℤ pos (width_at features n)
high_at [] n r l = absurd (omega arith)
high_at (f ∷ fs) zero r l = sym (above_low f.low f.high r.0)
high_at (f ∷ fs) (suc n) r l = high_at fs n r.3 (omega arith)

abbrev decision : Bool → Bool → Option Bool
decision b c = if b then Some true else (if c then Some false else None)

below_low : (low k : ℤ) → low <ℤ k → int_le k ((pos 1 *ℤ low) +ℤ pos 0) ≡ false
below_low low k h = let e : (pos 1 *ℤ low) +ℤ pos 0 ≡ low = omega (arith, ints) in ap (λ (z : ℤ). int_le k z) e ∙ grind (arith, ints)

up_to_high : (high k : ℤ) → k ≤ℤ high → int_lt ((pos 1 *ℤ high) +ℤ pos 0) k ≡ false
up_to_high high k h = let e : (pos 1 *ℤ high) +ℤ pos 0 ≡ high = omega (arith, ints) in ap (λ (z : ℤ). int_lt z k) e ∙ grind (arith, ints)

undecided : (features : List Feature) (n : ℕ) (k : ℤ) → AreRanges features → n < length features → low_at features n <ℤ k → k ≤ℤ (low_at features n +ℤ pos (width_at features n)) → decided_of features (value_test n k) ≡ None
undecided features n k r l g h =
    ap (λ (b : Bool). decision b (int_lt ((pos 1 *ℤ extreme_at true (pos 1) features n) +ℤ pos 0) k)) (below_low (low_at features n) k g)
    ∙ ap (λ (b : Bool). decision false b) (up_to_high (extreme_at true (pos 1) features n) k (subst (λ (z : ℤ). k ≤ℤ z) (sym (high_at features n r l)) h))

pub tests_open : TestsAreOpen
tests_open features us r u = each_test (IsOpen features) features us u (λ n k l g h.
    subst (IsDecided features (value_test n k)) (undecided features n k r l g h) (decided_so features (value_test n k) r (fit_at features n k r l g h)))
