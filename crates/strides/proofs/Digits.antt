-- Binary digits, and how a proper divisor has fewer.
use Rattle.std.proofs.Common.{◌≡◌, ◌≢◌, ℕ, zero, suc, ◌+◌, ◌-◌, ◌*◌, ◌/◌, ◌^◌, ◌<◌, ◌≤◌, nat_eq, Bool, true, false, if◌then◌else◌, refl, ap, arith}
use Rattle.std.specs.Int.{◌∣◌}
use Rattle.std.proofs.lemmas.Bool.Decides.{nat_tests}
use Rattle.std.proofs.Math.Nat.{mul-div_cancel'}
use Rattle.strides.specs.Strides.{digits_to, binary_digits, stride_count}

-- ---- more of a number, or more steps, are no fewer digits
digits_rise : (f g n m : ℕ) → m ≤ g → n ≤ m → digits_to f n ≤ digits_to g m
digits_rise zero g n m h k = omega arith
digits_rise (suc f) zero n m h k = by_zero (nat_eq n 0) refl
  where
    by_zero : (t : Bool) → nat_eq n 0 ≡ t → (if t then 0 else suc (digits_to f (n / 2))) ≤ 0
    by_zero true e = omega arith
    by_zero false e = absurd (grind (arith, nat_tests))
digits_rise (suc f) (suc g) n m h k = by_tests (nat_eq n 0) (nat_eq m 0) refl refl (λ p. digits_rise f g (n / 2) (m / 2) p (omega arith))
  where
    by_tests : (s t : Bool) → nat_eq n 0 ≡ s → nat_eq m 0 ≡ t → (m / 2 ≤ g → digits_to f (n / 2) ≤ digits_to g (m / 2)) → (if s then 0 else suc (digits_to f (n / 2))) ≤ (if t then 0 else suc (digits_to g (m / 2)))
    by_tests true t d e i = omega arith
    by_tests false true d e i = absurd (grind (arith, nat_tests))
    by_tests false false d e i =
        let p : 0 < m = grind (arith, nat_tests) in
        let q : digits_to f (n / 2) ≤ digits_to g (m / 2) = i (omega arith) in
        omega arith

digits_step : (f n : ℕ) → 0 < n → digits_to (suc f) n ≡ suc (digits_to f (n / 2))
digits_step f n p = let e : nat_eq n 0 ≡ false = grind (arith, nat_tests) in ap (λ t. if t then 0 else suc (digits_to f (n / 2))) e

-- twice a number and one more has a digit more
digits_more : (n m : ℕ) → 2 * n + 1 ≤ m → binary_digits n < binary_digits m
unfolding binary_digits
digits_more n zero h = absurd (omega arith)
digits_more n (suc m) h =
    let p : digits_to n n ≤ digits_to m (suc m / 2) = digits_rise n m n (suc m / 2) (omega arith) (omega arith) in
    let e : digits_to (suc m) (suc m) ≡ suc (digits_to m (suc m / 2)) = digits_step m (suc m) (omega arith) in
    let q : digits_to n n < digits_to (suc m) (suc m) = omega arith in
    q

digits_below : (d f n : ℕ) → n < 2 ^ d → digits_to f n ≤ d
digits_below d zero n h = omega arith
digits_below zero (suc f) n h = by_zero (nat_eq n 0) refl
  where
    by_zero : (t : Bool) → nat_eq n 0 ≡ t → (if t then 0 else suc (digits_to f (n / 2))) ≤ 0
    by_zero true e = omega arith
    by_zero false e = absurd (grind (arith, nat_tests))
digits_below (suc d) (suc f) n h = by_zero (nat_eq n 0) (digits_below d f (n / 2) (omega arith))
  where
    by_zero : (t : Bool) → digits_to f (n / 2) ≤ d → (if t then 0 else suc (digits_to f (n / 2))) ≤ suc d
    by_zero true i = omega arith
    by_zero false i = omega arith

-- ---- the count of a modulus
count_zero : (m : ℕ) → m ≡ 0 → stride_count m ≡ 33
unfolding stride_count
count_zero m z = ap (λ t. if t then 33 else binary_digits (m - 1)) (ap (λ i. nat_eq i 0) z)

count_some : (m : ℕ) → 0 < m → stride_count m ≡ binary_digits (m - 1)
unfolding stride_count
count_some m p = let e : nat_eq m 0 ≡ false = grind (arith, nat_tests) in ap (λ t. if t then 33 else binary_digits (m - 1)) e

count_32 : (m : ℕ) → 0 < m → m ≤ 4294967295 → stride_count m ≤ 32
unfolding binary_digits
count_32 m p h = let d : binary_digits (m - 1) ≤ 32 = digits_below 32 (m - 1) (m - 1) (omega arith) in omega (arith, count_some m p)

pub count_small : (m : ℕ) → m ≤ 4294967295 → stride_count m ≤ 33
count_small zero h = omega (arith, count_zero 0 refl)
count_small (suc m) h = omega (arith, count_32 (suc m) (omega arith) h)

halved : (d m : ℕ) → 0 < m → d ∣ m → d ≢ m → 2 * d ≤ m
halved d m p h n = by_quotient (m / d) (mul-div_cancel' d h)
  where
    by_quotient : (q : ℕ) → d * q ≡ m → 2 * d ≤ m
    by_quotient zero e = absurd (omega arith)
    by_quotient (suc zero) e = absurd (n (omega arith))
    by_quotient (suc (suc q)) e = omega arith

divisor_some : (d m : ℕ) → 0 < m → d ∣ m → 0 < d
divisor_some zero m p h = let e : 0 * (m / 0) ≡ m = mul-div_cancel' 0 h in absurd (omega arith)
divisor_some (suc d) m p h = omega arith

-- a divisor that is not the modulus itself has a lesser count
pub count_falls : (d m : ℕ) → d ∣ m → d ≢ m → d ≤ 4294967295 → stride_count d < stride_count m
count_falls d zero h n k = let p : 0 < d = positive d n in omega (arith, count_zero 0 refl, count_32 d p k)
  where
    positive : (d : ℕ) → d ≢ 0 → 0 < d
    positive d n = omega arith
count_falls d (suc m) h n k =
    let p : 0 < d = divisor_some d (suc m) (omega arith) h in
    let q : 2 * d ≤ suc m = halved d (suc m) (omega arith) h n in
    let r : binary_digits (d - 1) < binary_digits (suc m - 1) = digits_more (d - 1) (suc m - 1) (omega arith) in
    omega (arith, count_some d p, count_some (suc m) (omega arith))
