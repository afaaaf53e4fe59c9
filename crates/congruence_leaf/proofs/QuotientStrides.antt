-- The strides of quotients that the code finds are small, and those of the definition.
use Rattle.std.proofs.Common.{◌≡◌, ℕ, suc, ◌/◌, ◌<◌, ◌≤◌, nat_eq, ℤ, pos, negsuc, ◌≤ℤ◌, ◌<ℤ◌, int_div, unsigned_abs, to_z, of_z, w64, Bool, true, false, if◌then◌else◌, sym, ap, subst, ◌∙◌, arith}
use Rattle.std.specs.Int.{w128}
use Rattle.std.proofs.lemmas.Int.{ints}
use Rattle.std.proofs.Math.Nat.{div-le_self}
use Rattle.c_tree.specs.Value.{IsInt}
use Rattle.strides.specs.declared.stride.Stride.{Stride}
use Rattle.strides.specs.Strides.{stride_at, stride_of, lies_in_stride}
use Rattle.strides.proofs.StrideLaws.{by_modulus, stride_zero, stride_some, stride_modulus, stride_reduced}
use Rattle.product_leaf.proofs.Meanings.{int_back}
use Rattle.congruence_leaf.specs.Quotients.{quotient_stride}
use Rattle.congruence_leaf.proofs.Back.{small_back}

-- the residue of a small number by a small modulus
residue_small : (g : ℕ) (c : ℤ) → g ≤ 4294967295 → unsigned_abs c ≤ 4294967296 → unsigned_abs (stride_of g c).residue ≤ 4294967296
residue_small g c h k = by_modulus g zero_modulus some_modulus
  where
    between : (r : ℤ) (m : ℕ) → pos 0 ≤ℤ r → r <ℤ pos m → m ≤ 4294967295 → unsigned_abs r ≤ 4294967296
    between r m p q h = omega (arith, ints)

    zero_modulus : nat_eq g 0 ≡ true → g ≡ 0 → unsigned_abs (stride_of g c).residue ≤ 4294967296
    zero_modulus t z = rw (stride_zero g c z) k

    some_modulus : nat_eq g 0 ≡ false → 0 < g → unsigned_abs (stride_of g c).residue ≤ 4294967296
    some_modulus t p =
        let e : (stride_of g c).modulus ≡ g = stride_modulus g c in
        let q : 0 < (stride_of g c).modulus = subst (λ n. 0 < n) (sym e) p in
        between (stride_of g c).residue (stride_of g c).modulus ((stride_reduced g c).low q) ((stride_reduced g c).high q) (subst (λ n. n ≤ 4294967295) (sym e) h)

abs_quotient : (n m : ℤ) → unsigned_abs (int_div n m) ≤ unsigned_abs n
abs_quotient (pos a) (pos b) = div-le_self a b
abs_quotient (pos a) (negsuc b) = omega (arith, ints, div-le_self a (suc b))
abs_quotient (negsuc a) (pos b) = omega (arith, ints, div-le_self (suc a) b)
abs_quotient (negsuc a) (negsuc b) = div-le_self (suc a) (suc b)

pub quotient_size : (a d : ℤ) → unsigned_abs a ≤ 4294967296 → unsigned_abs (int_div a d) ≤ 4294967296
quotient_size a d h = omega (arith, abs_quotient a d)

-- a quotient in 128 bits
pub quotient_wide : (a m : ℤ) → unsigned_abs a ≤ 4294967296 → IsInt m → to_z w128 (of_z w128 (to_z w64 (of_z w64 (int_div (to_z w64 (of_z w64 a)) (to_z w64 (of_z w64 m)))))) ≡ int_div a m
quotient_wide a m h i = rw (small_back a h, int_back m i) (wide_back (int_div a m) (quotient_size a m h))
  where
    wide_back : (k : ℤ) → unsigned_abs k ≤ 4294967296 → to_z w128 (of_z w128 (to_z w64 (of_z w64 k))) ≡ k
    wide_back k h = omega (arith, ints)

-- the stride of all numbers
pub all_is : stride_at 1 (pos 0) ≡ stride_of 1 (pos 0)
all_is = sym (stride_some 1 (pos 0) (omega arith))

-- what is found is what is defined, and small
pub record IsQuotientStride (m : ℤ) (s : Stride) (k : ℕ) (r : ℤ) : Type 0 where
  pub is : stride_at k r ≡ quotient_stride m s
  pub modulus : k ≤ 4294967295
  pub low : negsuc 9223372036854775807 ≤ℤ r
  pub high : r ≤ℤ pos 9223372036854775807

pub then_lies : (m : ℤ) (s : Stride) (t : Bool) → t ≡ lies_in_stride s (stride_at (unsigned_abs m) (pos 0)) → t ≡ true → stride_of (s.modulus / unsigned_abs m) (int_div s.residue m) ≡ quotient_stride m s
unfolding quotient_stride
then_lies m s t e f = sym (ap (λ x. if x then stride_of (s.modulus / unsigned_abs m) (int_div s.residue m) else stride_of 1 (pos 0)) (sym e ∙ f))

pub else_all : (m : ℤ) (s : Stride) (t : Bool) → t ≡ lies_in_stride s (stride_at (unsigned_abs m) (pos 0)) → t ≡ false → stride_of 1 (pos 0) ≡ quotient_stride m s
unfolding quotient_stride
else_all m s t e f = sym (ap (λ x. if x then stride_of (s.modulus / unsigned_abs m) (int_div s.residue m) else stride_of 1 (pos 0)) (sym e ∙ f))

pub quotient_stride_found : (m : ℤ) (s : Stride) (g k : ℕ) (c r : ℤ) → s.modulus ≤ 4294967295 → unsigned_abs s.residue ≤ 4294967296 → g ≡ s.modulus / unsigned_abs m → c ≡ int_div s.residue m → stride_of (s.modulus / unsigned_abs m) (int_div s.residue m) ≡ quotient_stride m s → stride_at k r ≡ stride_of g c → IsQuotientStride m s k r
quotient_stride_found m s g k c r h i e f q w =
    record {
      is = w ∙ ap (λ n. stride_of n c) e ∙ ap (λ x. stride_of (s.modulus / unsigned_abs m) x) f ∙ q;
      modulus = subst (λ n. n ≤ 4294967295) (sym (ap (λ (t : Stride). t.modulus) w ∙ stride_modulus g c)) small;
      low = (bounds r size).0;
      high = (bounds r size).1;
    }
  where
    small : g ≤ 4294967295
    small = omega (arith, e, div-le_self s.modulus (unsigned_abs m))

    size : unsigned_abs r ≤ 4294967296
    size = subst (λ x. unsigned_abs x ≤ 4294967296) (sym (ap (λ (t : Stride). t.residue) w)) (residue_small g c small (subst (λ x. unsigned_abs x ≤ 4294967296) (sym f) (quotient_size s.residue m i)))

    bounds : (r : ℤ) → unsigned_abs r ≤ 4294967296 → (negsuc 9223372036854775807 ≤ℤ r) × (r ≤ℤ pos 9223372036854775807)
    bounds r h = (omega (arith, ints), omega (arith, ints))
