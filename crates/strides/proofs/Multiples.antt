-- Multiples, and what divides them.
use Rattle.std.proofs.Common.{◌≡◌, ℕ, zero, suc, ◌*◌, ◌/◌, ◌%◌, ◌<◌, ◌≤◌, nat_eq, ℤ, pos, negsuc, neg_ℤ, ◌+ℤ◌, ◌-ℤ◌, ◌*ℤ◌, unsigned_abs, Bool, true, false, refl, sym, ap, subst, ◌∙◌, arith, if◌then◌else◌}
use Rattle.std.specs.Int.{IsGcd, ◌∣◌}
use Rattle.std.proofs.lemmas.Bool.Decides.{nat_tests}
use Rattle.std.proofs.lemmas.Int.{ints, unsigned_abs-mul}
use Rattle.std.proofs.lemmas.Nat.Gcd.{IsGcd-from_zero, IsGcd-from_mod, same_from_IsGcd, dvd_refl, dvd-zero, dvd_trans, le_of_dvd, dvd_of_mod-eq-zero, mod-eq-zero_of_dvd}
use Rattle.std.proofs.Math.Nat.{mul-div_cancel', dvd-mul_left, mod-zero, mod-lt}
use Rattle.std.proofs.Math.IntN.{zero-*ℤ, +ℤ_invl, pos-*ℤ-pos}
use Rattle.strides.specs.Divisors.{euclid, gcd, divides, IsMultiple}
use Rattle.linear_terms.proofs.Integers.{sum-times, times-times}

pub multiple_same : (m : ℕ) (y z : ℤ) → z ≡ y → IsMultiple m y → IsMultiple m z
multiple_same m y z e h = record { times = h.times; value = e ∙ h.value }

pub multiple_zero : (m : ℕ) → IsMultiple m (pos 0)
multiple_zero m = record { times = pos 0; value = sym (zero-*ℤ (pos m)) }

pub multiple_sum : (m : ℕ) (y z : ℤ) → IsMultiple m y → IsMultiple m z → IsMultiple m (y +ℤ z)
multiple_sum m y z h k = record {
  times = h.times +ℤ k.times;
  value = ap (λ w. w +ℤ z) h.value ∙ ap (λ w. h.times *ℤ pos m +ℤ w) k.value ∙ sym (sum-times h.times k.times (pos m));
}

pub neg_times : (a c : ℤ) → neg_ℤ a *ℤ c ≡ neg_ℤ (a *ℤ c)
neg_times a c =
    let e : (neg_ℤ a +ℤ a) *ℤ c ≡ pos 0 = ap (λ x. x *ℤ c) (+ℤ_invl a) ∙ zero-*ℤ c in
    let f : (neg_ℤ a +ℤ a) *ℤ c ≡ neg_ℤ a *ℤ c +ℤ a *ℤ c = sum-times (neg_ℤ a) a c in
    let g : neg_ℤ a *ℤ c +ℤ a *ℤ c ≡ pos 0 = sym f ∙ e in
    opposite (neg_ℤ a *ℤ c) (a *ℤ c) g
  where
    opposite : (p q : ℤ) → p +ℤ q ≡ pos 0 → p ≡ neg_ℤ q
    opposite p q g = omega (arith, ints)

pub multiple_neg : (m : ℕ) (z : ℤ) → IsMultiple m z → IsMultiple m (neg_ℤ z)
multiple_neg m z h = record { times = neg_ℤ h.times; value = ap neg_ℤ h.value ∙ sym (neg_times h.times (pos m)) }

pub multiple_difference : (m : ℕ) (y z : ℤ) → IsMultiple m y → IsMultiple m z → IsMultiple m (y -ℤ z)
multiple_difference m y z h k = multiple_sum m y (neg_ℤ z) h (multiple_neg m z k)

pub multiple_scaled : (m : ℕ) (a z : ℤ) → IsMultiple m z → IsMultiple m (a *ℤ z)
multiple_scaled m a z h = record { times = a *ℤ h.times; value = ap (λ w. a *ℤ w) h.value ∙ sym (times-times a h.times (pos m)) }

pub multiple_from_dvd : (d : ℕ) (z : ℤ) → d ∣ unsigned_abs z → IsMultiple d z
multiple_from_dvd d (pos n) h = record { times = pos (n / d); value = ap pos (quotient d n h) ∙ sym (pos-*ℤ-pos (n / d) d) }
  where
    quotient : (d n : ℕ) → d ∣ n → n ≡ (n / d) * d
    quotient d n h = let e : d * (n / d) ≡ n = mul-div_cancel' d h in omega arith
multiple_from_dvd d (negsuc n) h =
    let e : d * (suc n / d) ≡ suc n = mul-div_cancel' d h in
    multiple_neg d (pos (suc n)) (record { times = pos (suc n / d); value = ap pos (omega arith) ∙ sym (pos-*ℤ-pos (suc n / d) d) })

pub dvd_from_multiple : (d : ℕ) (z : ℤ) → IsMultiple d z → d ∣ unsigned_abs z
dvd_from_multiple d z h =
    subst (λ n. d ∣ n) (sym (ap unsigned_abs h.value ∙ unsigned_abs-mul h.times (pos d))) (dvd-mul_left d (unsigned_abs h.times))

-- a multiple of a multiple
pub multiple_finer : (d m : ℕ) (z : ℤ) → d ∣ m → IsMultiple m z → IsMultiple d z
multiple_finer d m z h k = multiple_from_dvd d z (dvd_trans d h (dvd_from_multiple m z k))

-- ---- the greatest common divisor
euclid_is : (n a b : ℕ) → b ≤ n → IsGcd a b (euclid n a b)
euclid_is zero a b h = IsGcd-from_zero a b (omega arith)
euclid_is (suc n) a b h = by_test (nat_eq b 0) refl (λ k. euclid_is n b (a % b) k)
  where
    by_test : (t : Bool) → nat_eq b 0 ≡ t → (a % b ≤ n → IsGcd b (a % b) (euclid n b (a % b))) → IsGcd a b (if t then a else euclid n b (a % b))
    by_test true e rest = IsGcd-from_zero a b (grind (arith, nat_tests))
    by_test false e rest =
        let p : 0 < b = grind (arith, nat_tests) in
        let q : a % b < b = mod-lt a p in
        IsGcd-from_mod a b (euclid n b (a % b)) (rest (omega arith))

pub gcd_is : (a b : ℕ) → IsGcd a b (gcd a b)
unfolding gcd
gcd_is a b = euclid_is b a b (omega arith)

pub gcd_same : (a b g : ℕ) → IsGcd a b g → g ≡ gcd a b
gcd_same a b g h = same_from_IsGcd a b g (gcd a b) h (gcd_is a b)

pub zero_from_dvd : (n : ℕ) → 0 ∣ n → n ≡ 0
zero_from_dvd n h = let e : n % 0 ≡ 0 = mod-eq-zero_of_dvd 0 h in sym (mod-zero n) ∙ e

-- what bounds both numbers bounds their greatest common divisor
pub gcd_small : (a b g k : ℕ) → IsGcd a b g → a ≤ k → b ≤ k → g ≤ k
gcd_small zero zero g k h p q = let e : g ≡ 0 = zero_from_dvd g (h.2 0 (dvd_refl 0) (dvd_refl 0)) in omega arith
gcd_small (suc a) b g k h p q = let e : g ≤ suc a = le_of_dvd (omega arith) h.0 in omega arith
gcd_small zero (suc b) g k h p q = let e : g ≤ suc b = le_of_dvd (omega arith) h.1 in omega arith

-- ---- the test
pub divides_true : (n k : ℕ) → divides n k ≡ true → n ∣ k
unfolding divides
divides_true n k = by_test (nat_eq n 0) refl
  where
    by_test : (t : Bool) → nat_eq n 0 ≡ t → (if t then nat_eq k 0 else nat_eq (k % n) 0) ≡ true → n ∣ k
    by_test true e f = let z : k ≡ 0 = grind (arith, nat_tests) in subst (λ i. n ∣ i) (sym z) (dvd-zero n)
    by_test false e f = dvd_of_mod-eq-zero n (grind (arith, nat_tests))

pub divides_from : (n k : ℕ) → n ∣ k → divides n k ≡ true
unfolding divides
divides_from n k h = by_test (nat_eq n 0) refl
  where
    by_test : (t : Bool) → nat_eq n 0 ≡ t → (if t then nat_eq k 0 else nat_eq (k % n) 0) ≡ true
    by_test true e =
        let z : n ≡ 0 = grind (arith, nat_tests) in
        let y : k ≡ 0 = zero_from_dvd k (subst (λ i. i ∣ k) z h) in
        grind (arith, nat_tests)
    by_test false e = let y : k % n ≡ 0 = mod-eq-zero_of_dvd n h in grind (arith, nat_tests)
