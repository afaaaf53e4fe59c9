-- The strides of squares that the code finds in 128 bits fit 64 bits, and are those of the definition.
use Rattle.std.proofs.Common.{◌≡◌, ℕ, ◌*◌, ◌<◌, ◌≤◌, nat_eq, ℤ, pos, ◌*ℤ◌, ◌≤ℤ◌, ◌<ℤ◌, int_le, unsigned_abs, to_z, of_z, w64, Bool, true, false, ◌&&◌, if◌then◌else◌, refl, sym, ap, subst, ◌∙◌, arith}
use Rattle.std.specs.Int.{IsGcd, int_min, int_rem_euclid, w128}
use Rattle.std.proofs.lemmas.Int.{ints, clamps}
use Rattle.std.proofs.Math.Nat.{mul-le-mul}
use Rattle.c_tree.specs.Value.{IsInt}
use Rattle.strides.specs.declared.stride.Stride.{Stride}
use Rattle.strides.specs.Divisors.{gcd}
use Rattle.strides.specs.Strides.{stride_at, stride_of}
use Rattle.strides.proofs.Multiples.{gcd_same, gcd_small}
use Rattle.strides.proofs.Remainders.{IsRemainder, remainder_is, least_offset}
use Rattle.strides.proofs.StrideLaws.{by_modulus, stride_zero, stride_some, stride_modulus}
use Rattle.product_leaf.proofs.Meanings.{int_back}
use Rattle.congruence_leaf.specs.Squares.{least_square, square_stride}
use Rattle.congruence_leaf.specs.Laws.Squares.{square_some}
use Rattle.congruence_leaf.proofs.Sizes.{size_small, square_small}

-- the least square of numbers above 0, and of numbers below it
pub least_by_low : (l h m : ℤ) → pos 0 <ℤ l → m ≡ int_min (l *ℤ l) (h *ℤ h) → m ≡ least_square l h
least_by_low l h m p e =
    let f : int_le l (pos 0) ≡ false = grind (arith, ints) in
    e ∙ sym (ap (λ t. if t && int_le (pos 0) h then pos 0 else int_min (l *ℤ l) (h *ℤ h)) f)

pub least_by_high : (l h m : ℤ) → h <ℤ pos 0 → m ≡ int_min (l *ℤ l) (h *ℤ h) → m ≡ least_square l h
least_by_high l h m p e = e ∙ by_test (int_le l (pos 0))
  where
    f : int_le (pos 0) h ≡ false
    f = grind (arith, ints)

    by_test : (t : Bool) → int_min (l *ℤ l) (h *ℤ h) ≡ (if t && int_le (pos 0) h then pos 0 else int_min (l *ℤ l) (h *ℤ h))
    by_test true = sym (ap (λ t. if t then pos 0 else int_min (l *ℤ l) (h *ℤ h)) f)
    by_test false = refl

-- the same number in 64 bits
pub narrow_back : (n : ℤ) → pos 0 ≤ℤ n → n ≤ℤ pos 4611686018427387904 → to_z w64 (of_z w64 n) ≡ n
narrow_back n h k = omega (arith, ints)

-- the lesser of two squares in 64 bits
pub record IsLesser (s t n : ℤ) : Type 0 where
  pub is : n ≡ int_min s t
  pub low : pos 0 ≤ℤ n
  pub high : n ≤ℤ pos 4611686018427387904

pub lesser : (s t m : ℤ) → pos 0 ≤ℤ s → s ≤ℤ pos 4611686018427387904 → pos 0 ≤ℤ t → t ≤ℤ pos 4611686018427387904 → m ≡ int_min (to_z w64 (of_z w64 s)) (to_z w64 (of_z w64 t)) → IsLesser s t (to_z w64 (of_z w64 m))
lesser s t m p q r u e =
    record { is = back; low = subst (λ x. pos 0 ≤ℤ x) (sym back) (least_low s t p r); high = subst (λ x. x ≤ℤ pos 4611686018427387904) (sym back) (least_high s t q) }
  where
    least_low : (s t : ℤ) → pos 0 ≤ℤ s → pos 0 ≤ℤ t → pos 0 ≤ℤ int_min s t
    least_low s t p r = omega (arith, ints, clamps)

    least_high : (s t : ℤ) → s ≤ℤ pos 4611686018427387904 → int_min s t ≤ℤ pos 4611686018427387904
    least_high s t q = omega (arith, ints, clamps)

    same : m ≡ int_min s t
    same = e ∙ ap (λ x. int_min x (to_z w64 (of_z w64 t))) (narrow_back s p q) ∙ ap (λ x. int_min s x) (narrow_back t r u)

    back : to_z w64 (of_z w64 m) ≡ int_min s t
    back = ap (λ x. to_z w64 (of_z w64 x)) same ∙ narrow_back (int_min s t) (least_low s t p r) (least_high s t q)

pub square_back : (l n : ℤ) → IsInt l → n ≡ to_z w64 (of_z w64 l) *ℤ to_z w64 (of_z w64 l) → n ≡ l *ℤ l
square_back l n h e = e ∙ ap (λ x. x *ℤ x) (int_back l h)

-- the same number in 128 bits
pub wide_back : (n : ℤ) → pos 0 ≤ℤ n → n ≤ℤ pos 4611686018427387904 → to_z w128 (of_z w128 (to_z w64 (of_z w64 n))) ≡ n
wide_back n h k = omega (arith, ints)

pub stride_back : (k : ℕ) (x r : ℤ) (s : Stride) → x ≡ r → stride_at k r ≡ s → stride_at k x ≡ s
stride_back k x r s e f = ap (λ n. stride_at k n) e ∙ f

-- what divides both distances of squares
pub divisor_small : (l : ℤ) (m twice whole g : ℕ) → IsInt l → m ≤ 4294967295 → twice ≡ 2 * (unsigned_abs l * m) → whole ≡ m * m → IsGcd twice whole g → g ≤ 18446744073709551615
divisor_small l m twice whole g h k e f i =
    let p : unsigned_abs l ≤ 2147483648 = size_small l h in
    let q : unsigned_abs l * m ≤ 9223372034707292160 = mul-le-mul p k in
    let r : m * m ≤ 18446744065119617025 = mul-le-mul k k in
    gcd_small twice whole g 18446744073709551615 i (omega arith) (omega arith)

-- the residue of a number that is 0 or more is no greater
residue_below : (g : ℕ) (n : ℤ) → pos 0 ≤ℤ n → (pos 0 ≤ℤ (stride_of g n).residue) × ((stride_of g n).residue ≤ℤ n)
residue_below g n h = by_modulus g zero_modulus some_modulus
  where
    zero_modulus : nat_eq g 0 ≡ true → g ≡ 0 → (pos 0 ≤ℤ (stride_of g n).residue) × ((stride_of g n).residue ≤ℤ n)
    zero_modulus t z = rw (stride_zero g n z) (h, omega (arith, ints))

    some_modulus : nat_eq g 0 ≡ false → 0 < g → (pos 0 ≤ℤ (stride_of g n).residue) × ((stride_of g n).residue ≤ℤ n)
    some_modulus t p =
        let r : IsRemainder g n (int_rem_euclid n (pos g)) = remainder_is g n p in
        rw (stride_some g n p) (r.low, least_offset g (int_rem_euclid n (pos g)) n h r.high r.rest)

-- what is found is what is defined, and fits
pub record IsSquareStride (l : ℤ) (m k : ℕ) (r : ℤ) : Type 0 where
  pub is : stride_at k r ≡ square_stride l m
  pub modulus : k ≤ 18446744073709551615
  pub low : pos 0 ≤ℤ r
  pub high : r ≤ℤ pos 4611686018427387904

pub square_stride_found : (l : ℤ) (m twice whole g k : ℕ) (n r : ℤ) → IsInt l → m ≤ 4294967295 → twice ≡ 2 * (unsigned_abs l * m) → whole ≡ m * m → IsGcd twice whole g → n ≡ l *ℤ l → stride_at k r ≡ stride_of g n → IsSquareStride l m k r
unfolding square_stride
square_stride_found l m twice whole g k n r h i e f j q w =
    record {
      is = w ∙ ap (λ x. stride_of g x) q ∙ ap (λ x. stride_of x (l *ℤ l)) same;
      modulus = subst (λ x. x ≤ 18446744073709551615) (sym (ap (λ (t : Stride). t.modulus) w ∙ stride_modulus g n)) (divisor_small l m twice whole g h i e f j);
      low = subst (λ x. pos 0 ≤ℤ x) (sym residue) bounds.0;
      high = between r n (subst (λ x. x ≤ℤ n) (sym residue) bounds.1) (subst (λ x. x ≤ℤ pos 4611686018427387904) (sym q) (square_small l h));
    }
  where
    same : g ≡ gcd (2 * (unsigned_abs l * m)) (m * m)
    same = gcd_same (2 * (unsigned_abs l * m)) (m * m) g (subst (λ x. IsGcd (2 * (unsigned_abs l * m)) x g) f (subst (λ x. IsGcd x whole g) e j))

    residue : r ≡ (stride_of g n).residue
    residue = ap (λ (t : Stride). t.residue) w

    bounds : (pos 0 ≤ℤ (stride_of g n).residue) × ((stride_of g n).residue ≤ℤ n)
    bounds = residue_below g n (subst (λ x. pos 0 ≤ℤ x) (sym q) (square_some l))

    between : (r n : ℤ) → r ≤ℤ n → n ≤ℤ pos 4611686018427387904 → r ≤ℤ pos 4611686018427387904
    between r n p q = omega (arith, ints)
