-- The sum of terms at a configuration, term by term.
use Rattle.std.proofs.Common.{◌≡◌, ℕ, zero, suc, ◌+◌, ◌*◌, ◌≤◌, ◌<◌, ◌^◌, ℤ, pos, ◌+ℤ◌, ◌*ℤ◌, unsigned_abs, Bool, true, false, ◌&&◌, List, [], ◌∷◌, length, get_or, sym, ap, subst, refl, ◌∙◌, arith, FitsSigned, w64}
use Rattle.std.specs.Int.{w128}
use Rattle.std.proofs.lemmas.Int.{ints, unsigned_abs-mul}
use Rattle.std.proofs.lemmas.Nat.{mul-le}
use Rattle.std.proofs.lemmas.Bool.Decides.{nat_tests}
use Rattle.linear_atoms.specs.Forms.{sum_at, is_small, are_small}
use Rattle.linear_atoms.specs.Atoms.{AreBelow, AreValues}

-- the sum so far of a function of the terms, the terms left, and all of them, which name features below this count
pub record Summing (f : List (ℕ × ℤ) → ℤ) (count : ℕ) (sum : ℤ) (rest whole : List (ℕ × ℤ)) : Type 0 where
  pub split : sum +ℤ f rest ≡ f whole
  pub bound : unsigned_abs sum + length rest * 2251799813685248 ≤ length whole * 2251799813685248
  pub small : are_small rest ≡ true
  pub named : AreBelow count rest
  pub long : length whole < 2 ^ 64

and_left : (a b : Bool) → (a && b) ≡ true → a ≡ true
and_left true b e = refl
and_left false b e = e

and_right : (a b : Bool) → (a && b) ≡ true → b ≡ true
and_right true b e = e
and_right false b e = cc

pub value_size : (values : List ℤ) (n : ℕ) → AreValues values → unsigned_abs (get_or values n (pos 0)) ≤ 1048576
value_size [] n h = omega arith
value_size (v ∷ vs) zero h = h.0
value_size (v ∷ vs) (suc n) h = value_size vs n h.1

size_small : (k : ℤ) → is_small k ≡ true → unsigned_abs k ≤ 2147483648
size_small k h = grind (arith, nat_tests)

pub product_size : (a v : ℤ) → is_small a ≡ true → unsigned_abs v ≤ 1048576 → unsigned_abs (a *ℤ v) ≤ 2251799813685248
product_size a v h k = rw (unsigned_abs-mul a v) (mul-le (unsigned_abs a) (unsigned_abs v) 2147483648 1048576 (size_small a h) k)

pub first_named : (f : List (ℕ × ℤ) → ℤ) (count : ℕ) (sum : ℤ) (rest behind whole : List (ℕ × ℤ)) (n : ℕ) (a : ℤ) → Summing f count sum rest whole → rest ≡ (n, a) ∷ behind → n < count
first_named f count sum rest behind whole n a m e = let k : AreBelow count ((n, a) ∷ behind) = subst (AreBelow count) e m.named in k.0

pub summing_step : (f : List (ℕ × ℤ) → ℤ) (count : ℕ) (sum : ℤ) (rest behind whole : List (ℕ × ℤ)) (n : ℕ) (a v p : ℤ) → Summing f count sum rest whole → rest ≡ (n, a) ∷ behind
    → p ≡ a *ℤ v → unsigned_abs v ≤ 1048576 → unsigned_abs p ≤ 2251799813685248
summing_step f count sum rest behind whole n a v p m e g h =
    rw g (product_size a v (and_left _ (are_small behind) (ap are_small (sym e) ∙ m.small)) h)

pub summing_fits : (f : List (ℕ × ℤ) → ℤ) (count : ℕ) (sum p : ℤ) (rest whole : List (ℕ × ℤ)) → Summing f count sum rest whole → unsigned_abs p ≤ 2251799813685248 → FitsSigned w128 (sum +ℤ p)
summing_fits f count sum p rest whole m h =
    let n : length whole < 2 ^ 64 = m.long in
    let b : unsigned_abs sum + length rest * 2251799813685248 ≤ length whole * 2251799813685248 = m.bound in
    omega (arith, ints)

pub summing_more : (f : List (ℕ × ℤ) → ℤ) (count : ℕ) (sum s p : ℤ) (rest behind whole : List (ℕ × ℤ)) (n : ℕ) (a : ℤ) → Summing f count sum rest whole → rest ≡ (n, a) ∷ behind
    → f rest ≡ p +ℤ f behind → unsigned_abs p ≤ 2251799813685248 → s ≡ sum +ℤ p → Summing f count s behind whole
summing_more f count sum s p rest behind whole n a m e j k g =
    let b : unsigned_abs sum + length rest * 2251799813685248 ≤ length whole * 2251799813685248 = m.bound in
    let l : length rest ≡ suc (length behind) = ap length e in
    let i : sum +ℤ f rest ≡ f whole = m.split in
    record {
      split = omega (arith, ints);
      bound = omega (arith, ints);
      small = and_right (is_small a) (are_small behind) (ap are_small (sym e) ∙ m.small);
      named = (let q : AreBelow count ((n, a) ∷ behind) = subst (AreBelow count) e m.named in q.1);
      long = m.long;
    }

pub value_fits : (values : List ℤ) (n : ℕ) → AreValues values → FitsSigned w64 (get_or values n (pos 0))
value_fits values n h = let k : unsigned_abs (get_or values n (pos 0)) ≤ 1048576 = value_size values n h in omega (arith, ints)

pub sum_split : (values : List ℤ) (rest behind : List (ℕ × ℤ)) (n : ℕ) (a p : ℤ) → rest ≡ (n, a) ∷ behind → p ≡ a *ℤ get_or values n (pos 0) → sum_at rest values ≡ p +ℤ sum_at behind values
sum_split values rest behind n a p e f = ap (λ x. sum_at x values) e ∙ ap (λ x. x +ℤ sum_at behind values) (sym f)
