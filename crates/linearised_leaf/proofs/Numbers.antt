-- Multiples of numbers of a range, and the numbers whose multiple is at most another.
use Rattle.std.proofs.Common.{◌≡◌, ◌≢◌, ℕ, zero, suc, ◌*◌, ◌/◌, ◌<◌, ◌≤◌, ℤ, pos, negsuc, ◌*ℤ◌, ◌≤ℤ◌, int_lt, Bool, true, false, if◌then◌else◌, refl, sym, subst, arith}
use Rattle.std.specs.Int.{int_min, int_max, int_div_euclid}
use Rattle.std.proofs.Math.Nat.{mul-le-mul_left, div-lt_iff_lt-mul}
use Rattle.std.proofs.lemmas.Nat.{le-div}
use Rattle.std.proofs.lemmas.Int.{ints, clamps}
use Rattle.c_tree.specs.Value.{least, greatest, IsInt}
use Rattle.leaf_domain.specs.declared.range.Range.{Range}
use Rattle.leaf_domain.specs.Ranges.{Within, IsInInt, range_of_ends}
use Rattle.leaf_domain.proofs.CutLemmas.{ends_in_int, ends_hold}
use Rattle.linearised_leaf.specs.LeastValues.{least_multiple, multiples_below}

-- ---- multiples
times_mono : (k : ℕ) (x y : ℤ) → x ≤ℤ y → (pos k *ℤ x) ≤ℤ (pos k *ℤ y)
times_mono k (pos a) (pos b) h = let p : a ≤ b = omega (arith, ints) in omega (arith, ints, mul-le-mul_left k p)
times_mono k (pos a) (negsuc b) h = absurd (omega (arith, ints))
times_mono k (negsuc a) (pos b) h = omega (arith, ints)
times_mono k (negsuc a) (negsuc b) h = let p : suc b ≤ suc a = omega (arith, ints) in omega (arith, ints, mul-le-mul_left k p)

times_anti : (k : ℕ) (x y : ℤ) → x ≤ℤ y → (negsuc k *ℤ y) ≤ℤ (negsuc k *ℤ x)
times_anti k (pos a) (pos b) h = let p : a ≤ b = omega (arith, ints) in omega (arith, ints, mul-le-mul_left (suc k) p)
times_anti k (pos a) (negsuc b) h = absurd (omega (arith, ints))
times_anti k (negsuc a) (pos b) h = omega (arith, ints)
times_anti k (negsuc a) (negsuc b) h = let p : suc b ≤ suc a = omega (arith, ints) in omega (arith, ints, mul-le-mul_left (suc k) p)

not_below : (k : ℕ) → int_lt (pos k) (pos 0) ≡ false
not_below k = grind (arith, ints)

-- the least multiple is at most that of each number of the range
pub least_is_least : (k x : ℤ) (r : Range) → Within x r → least_multiple k r ≤ℤ (k *ℤ x)
least_is_least (pos k) x r w = subst (λ t. (pos k *ℤ (if t then r.high else r.low)) ≤ℤ (pos k *ℤ x)) (sym (not_below k)) (times_mono k r.low x w.low)
least_is_least (negsuc k) x r w = times_anti k x r.high w.high

-- ---- quotients
under : (a d m : ℕ) → 0 < d → suc a ≤ d * m → suc (a / d) ≤ m
under a d m p h = let q : a / d < m = (div-lt_iff_lt-mul p).1 (omega (arith, h)) in omega (arith, q)

below_quotient : (d : ℕ) (x n : ℤ) → 0 < d → (pos d *ℤ x) ≤ℤ n → x ≤ℤ int_div_euclid n (pos d)
below_quotient d (pos m) (pos a) p h = let q : m ≤ a / d = le-div m a d p (omega (arith, ints)) in omega (arith, ints)
below_quotient d (pos m) (negsuc a) p h = absurd (omega (arith, ints))
below_quotient d (negsuc m) (pos a) p h = omega (arith, ints)
below_quotient d (negsuc m) (negsuc a) p h = let q : suc (a / d) ≤ suc m = under a d (suc m) p (omega (arith, ints)) in omega (arith, ints)

above_quotient : (b : ℕ) (x n : ℤ) → (negsuc b *ℤ x) ≤ℤ n → int_div_euclid n (negsuc b) ≤ℤ x
above_quotient b (pos m) (pos a) h = omega (arith, ints)
above_quotient b (pos m) (negsuc a) h = let q : suc (a / suc b) ≤ m = under a (suc b) m (omega arith) (omega (arith, ints)) in omega (arith, ints)
above_quotient b (negsuc m) (pos a) h = let q : suc m ≤ a / suc b = le-div (suc m) a (suc b) (omega arith) (omega (arith, ints)) in omega (arith, ints)
above_quotient b (negsuc m) (negsuc a) h = absurd (omega (arith, ints))

-- a number of `int` whose multiple is at most another
pub multiples_hold : (k x n : ℤ) → k ≢ pos 0 → IsInt x → (k *ℤ x) ≤ℤ n → Within x (multiples_below k n)
multiples_hold (pos zero) x n z i h = absurd (z refl)
multiples_hold (pos (suc d)) x n z i h =
    let q : x ≤ℤ int_div_euclid n (pos (suc d)) = below_quotient (suc d) x n (omega arith) h in
    subst (λ t. Within x (if t then range_of_ends (int_max least (int_div_euclid n (pos (suc d)))) greatest else range_of_ends least (int_min (int_div_euclid n (pos (suc d))) greatest)))
    (sym (not_below (suc d))) (ends_hold x least (int_min (int_div_euclid n (pos (suc d))) greatest) i.low (omega (arith, ints, clamps, q, i.high)))
multiples_hold (negsuc b) x n z i h =
    let q : int_div_euclid n (negsuc b) ≤ℤ x = above_quotient b x n h in
    ends_hold x (int_max least (int_div_euclid n (negsuc b))) greatest (omega (arith, ints, clamps, q, i.low)) i.high

pub multiples_in_int : (k n : ℤ) → IsInInt (multiples_below k n)
multiples_in_int k n = by_test (int_lt k (pos 0))
  where
    by_test : (t : Bool) → IsInInt (if t then range_of_ends (int_max least (int_div_euclid n k)) greatest else range_of_ends least (int_min (int_div_euclid n k) greatest))
    by_test true =
        ends_in_int (int_max least (int_div_euclid n k)) greatest
        (λ h. (record { low = omega (arith, ints, clamps); high = omega (arith, ints, clamps, h) }, record { low = omega (arith, ints); high = omega (arith, ints) }))
    by_test false =
        ends_in_int least (int_min (int_div_euclid n k) greatest)
        (λ h. (record { low = omega (arith, ints); high = omega (arith, ints) }, record { low = omega (arith, ints, clamps, h); high = omega (arith, ints, clamps) }))
