-- The squares of numbers of a stride are among those that the definitions have.
use Rattle.std.proofs.Common.{◌≡◌, ℕ, zero, suc, ◌*◌, ◌≤◌, ℤ, pos, negsuc, ◌+ℤ◌, ◌-ℤ◌, ◌*ℤ◌, ◌≤ℤ◌, int_le, unsigned_abs, Bool, true, false, ◌&&◌, if◌then◌else◌, refl, sym, ap, subst, ◌∙◌, arith}
use Rattle.std.specs.Int.{int_min, int_max, ◌∣◌}
use Rattle.std.proofs.lemmas.Int.{ints, clamps, unsigned_abs-mul}
use Rattle.std.proofs.Math.Nat.{mul-le-mul}
use Rattle.std.proofs.Math.IntN.{*ℤ_comm}
use Rattle.linear_terms.proofs.Integers.{sum-times, times-sum, times-times}
use Rattle.strides.specs.declared.strided.Strided.{Strided}
use Rattle.strides.specs.Divisors.{gcd, IsMultiple}
use Rattle.strides.specs.Strides.{HasStride, IsReduced}
use Rattle.strides.specs.Strided.{Has}
use Rattle.strides.proofs.Multiples.{multiple_same, multiple_sum, multiple_difference, multiple_scaled, multiple_from_dvd, gcd_is}
use Rattle.strides.proofs.StrideLaws.{stride_has, stride_reduced}
use Rattle.congruence_leaf.specs.Squares.{least_square, square_stride, strided_squares}

-- a number that is 0 or more has a square no greater than that of a greater one
square_up : (a b : ℤ) → pos 0 ≤ℤ a → a ≤ℤ b → (a *ℤ a) ≤ℤ (b *ℤ b)
square_up (pos a) (pos b) p h = let q : a ≤ b = omega (arith, ints) in omega (arith, ints, mul-le-mul q q)
square_up (pos a) (negsuc b) p h = absurd (omega (arith, ints))
square_up (negsuc a) b p h = absurd (omega (arith, ints))

-- and a number that is 0 or less, than that of a lesser one
square_down : (a b : ℤ) → a ≤ℤ b → b ≤ℤ pos 0 → (b *ℤ b) ≤ℤ (a *ℤ a)
square_down (negsuc a) (negsuc b) h p = let q : suc b ≤ suc a = omega (arith, ints) in omega (arith, ints, mul-le-mul q q)
square_down (negsuc a) (pos zero) h p = omega (arith, ints)
square_down a (pos (suc b)) h p = absurd (omega (arith, ints))
square_down (pos zero) (pos zero) h p = omega (arith, ints)
square_down (pos (suc a)) (pos zero) h p = absurd (omega (arith, ints))
square_down (pos a) (negsuc b) h p = absurd (omega (arith, ints))

pub square_some : (n : ℤ) → pos 0 ≤ℤ (n *ℤ n)
square_some (pos n) = omega (arith, ints)
square_some (negsuc n) = omega (arith, ints)

square_below : (l n h : ℤ) → l ≤ℤ n → n ≤ℤ h → (n *ℤ n) ≤ℤ int_max (l *ℤ l) (h *ℤ h)
square_below l (pos n) h p q = let r : (pos n *ℤ pos n) ≤ℤ (h *ℤ h) = square_up (pos n) h (omega (arith, ints)) q in omega (arith, ints, clamps)
square_below l (negsuc n) h p q = let r : (negsuc n *ℤ negsuc n) ≤ℤ (l *ℤ l) = square_down l (negsuc n) p (omega (arith, ints)) in omega (arith, ints, clamps)

square_above : (l n h : ℤ) → l ≤ℤ n → n ≤ℤ h → least_square l h ≤ℤ (n *ℤ n)
square_above l n h p q = by_tests (int_le l (pos 0)) (int_le (pos 0) h) refl refl
  where
    low : (l n h : ℤ) → l ≤ℤ n → int_le l (pos 0) ≡ false → int_min (l *ℤ l) (h *ℤ h) ≤ℤ (n *ℤ n)
    low l n h p e =
        let r : pos 0 ≤ℤ l = grind (arith, ints) in
        let s : (l *ℤ l) ≤ℤ (n *ℤ n) = square_up l n r p in
        omega (arith, ints, clamps)

    high : (l n h : ℤ) → n ≤ℤ h → int_le (pos 0) h ≡ false → int_min (l *ℤ l) (h *ℤ h) ≤ℤ (n *ℤ n)
    high l n h p e =
        let r : h ≤ℤ pos 0 = grind (arith, ints) in
        let s : (h *ℤ h) ≤ℤ (n *ℤ n) = square_down n h p r in
        omega (arith, ints, clamps)

    by_tests : (t u : Bool) → int_le l (pos 0) ≡ t → int_le (pos 0) h ≡ u → (if t && u then pos 0 else int_min (l *ℤ l) (h *ℤ h)) ≤ℤ (n *ℤ n)
    by_tests true true e f = square_some n
    by_tests true false e f = high l n h q f
    by_tests false u e f = low l n h p e

-- ---- residues
-- the square of a sum
square_sum : (l d : ℤ) → (l +ℤ d) *ℤ (l +ℤ d) ≡ l *ℤ l +ℤ (pos 2 *ℤ (l *ℤ d) +ℤ d *ℤ d)
square_sum l d =
    let e : (l +ℤ d) *ℤ (l +ℤ d) ≡ l *ℤ (l +ℤ d) +ℤ d *ℤ (l +ℤ d) = sum-times l d (l +ℤ d) in
    let f : l *ℤ (l +ℤ d) ≡ l *ℤ l +ℤ l *ℤ d = times-sum l l d in
    let g : d *ℤ (l +ℤ d) ≡ d *ℤ l +ℤ d *ℤ d = times-sum d l d in
    let i : d *ℤ l ≡ l *ℤ d = *ℤ_comm d l in
    omega (arith, ints)

-- twice a low times a modulus, as far as the multiple of the modulus goes
doubled : (l k m : ℤ) → pos 2 *ℤ (l *ℤ (k *ℤ m)) ≡ k *ℤ (pos 2 *ℤ (l *ℤ m))
doubled l k m =
    let e : l *ℤ (k *ℤ m) ≡ k *ℤ (l *ℤ m) = sym (times-times l k m) ∙ ap (λ x. x *ℤ m) (*ℤ_comm l k) ∙ times-times k l m in
    ap (λ x. pos 2 *ℤ x) e ∙ sym (times-times (pos 2) k (l *ℤ m)) ∙ ap (λ x. x *ℤ (l *ℤ m)) (*ℤ_comm (pos 2) k) ∙ times-times k (pos 2) (l *ℤ m)

regrouped : (k m : ℤ) → (k *ℤ m) *ℤ (k *ℤ m) ≡ (k *ℤ k) *ℤ (m *ℤ m)
regrouped k m =
    times-times k m (k *ℤ m) ∙ ap (λ x. k *ℤ x) (sym (times-times m k m) ∙ ap (λ x. x *ℤ m) (*ℤ_comm m k) ∙ times-times k m m) ∙ sym (times-times k k (m *ℤ m))

-- the squares of numbers that differ by a multiple of m differ by a multiple of what divides twice one of them times m, and the
-- square of m
square_multiple : (l n : ℤ) (m : ℕ) → IsMultiple m (n -ℤ l) → IsMultiple (gcd (2 * (unsigned_abs l * m)) (m * m)) (n *ℤ n -ℤ l *ℤ l)
square_multiple l n m h =
    let c = gcd_is (2 * (unsigned_abs l * m)) (m * m) in
    let a : unsigned_abs (pos 2 *ℤ (l *ℤ pos m)) ≡ 2 * (unsigned_abs l * m) = unsigned_abs-mul (pos 2) (l *ℤ pos m) ∙ ap (λ x. 2 * x) (unsigned_abs-mul l (pos m)) in
    let p : IsMultiple (gcd (2 * (unsigned_abs l * m)) (m * m)) (pos 2 *ℤ (l *ℤ pos m)) = multiple_from_dvd _ (pos 2 *ℤ (l *ℤ pos m)) (subst (λ x. gcd (2 * (unsigned_abs l * m)) (m * m) ∣ x) (sym a) c.0) in
    let q : IsMultiple (gcd (2 * (unsigned_abs l * m)) (m * m)) (pos m *ℤ pos m) = multiple_from_dvd _ (pos m *ℤ pos m) (subst (λ x. gcd (2 * (unsigned_abs l * m)) (m * m) ∣ x) (sym (unsigned_abs-mul (pos m) (pos m))) c.1) in
    multiple_same _ _ _ (moved l n h.times m h.value) (multiple_sum _ _ _ (multiple_scaled _ h.times _ p) (multiple_scaled _ (h.times *ℤ h.times) _ q))
  where
    less : (n l d : ℤ) → n -ℤ l ≡ d → n ≡ l +ℤ d
    less n l d e = omega (arith, ints)

    ended : (x y z : ℤ) → x ≡ y +ℤ z → x -ℤ y ≡ z
    ended x y z e = omega (arith, ints)

    moved : (l n k : ℤ) (m : ℕ) → n -ℤ l ≡ k *ℤ pos m → n *ℤ n -ℤ l *ℤ l ≡ k *ℤ (pos 2 *ℤ (l *ℤ pos m)) +ℤ (k *ℤ k) *ℤ (pos m *ℤ pos m)
    moved l n k m e =
        let f : n ≡ l +ℤ k *ℤ pos m = less n l (k *ℤ pos m) e in
        let s : n *ℤ n ≡ l *ℤ l +ℤ (pos 2 *ℤ (l *ℤ (k *ℤ pos m)) +ℤ (k *ℤ pos m) *ℤ (k *ℤ pos m)) = ap (λ x. x *ℤ x) f ∙ square_sum l (k *ℤ pos m) in
        ended (n *ℤ n) (l *ℤ l) _ s ∙ ap (λ x. x +ℤ (k *ℤ pos m) *ℤ (k *ℤ pos m)) (doubled l k (pos m)) ∙ ap (λ x. k *ℤ (pos 2 *ℤ (l *ℤ pos m)) +ℤ x) (regrouped k (pos m))

-- ---- numbers of which the low is one
square_has : (d : Strided) (n : ℤ) → HasStride d.stride n → HasStride d.stride d.low → HasStride (square_stride d.low d.stride.modulus) (n *ℤ n)
unfolding square_stride
square_has d n h k =
    let p : IsMultiple d.stride.modulus (n -ℤ d.low) = multiple_same _ _ _ (apart n d.low d.stride.residue) (multiple_difference _ _ _ h k) in
    stride_has (gcd (2 * (unsigned_abs d.low * d.stride.modulus)) (d.stride.modulus * d.stride.modulus)) (d.low *ℤ d.low) (n *ℤ n) (square_multiple d.low n d.stride.modulus p)
  where
    apart : (n l c : ℤ) → n -ℤ l ≡ (n -ℤ c) -ℤ (l -ℤ c)
    apart n l c = omega (arith, ints)

pub squares_have : (d : Strided) (n : ℤ) → Has d n → HasStride d.stride d.low → Has (strided_squares d) (n *ℤ n)
unfolding strided_squares
squares_have d n h k = record { low = square_above d.low n d.high h.low h.high; high = square_below d.low n d.high h.low h.high; stride = square_has d n h.stride k }

square_reduced : (l : ℤ) (m : ℕ) → IsReduced (square_stride l m)
unfolding square_stride
square_reduced l m = stride_reduced (gcd (2 * (unsigned_abs l * m)) (m * m)) (l *ℤ l)

pub squares_reduced : (d : Strided) → IsReduced (strided_squares d).stride
unfolding strided_squares
squares_reduced d = square_reduced d.low d.stride.modulus
