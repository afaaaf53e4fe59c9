-- Numbers that were passed or computed are themselves.
use Rattle.std.proofs.Common.{◌≡◌, ◌≢◌, ℕ, ◌≤◌, ℤ, pos, ◌-ℤ◌, ◌≤ℤ◌, ◌<ℤ◌, int_rem, unsigned_abs, FitsSigned, to_z, of_z, w64, arith}
use Rattle.std.proofs.lemmas.Int.{ints}
use Rattle.c_tree.specs.Value.{least, greatest, IsInt}
use Rattle.strides.specs.declared.strided.Strided.{Strided}
use Rattle.strides.specs.Strided.{IsOwn}
use Rattle.strides.proofs.StrideLaws.{by_modulus}
use Rattle.strides.proofs.StridedLaws.{own_residue}
use Rattle.product_leaf.proofs.Meanings.{int_back}
use Rattle.congruence_leaf.proofs.Sizes.{rem_in_int}

difference_back : (a b : ℤ) → IsInt a → IsInt b → to_z w64 (of_z w64 (a -ℤ b)) ≡ a -ℤ b
difference_back a b h k =
    let p : least ≤ℤ a = h.low in let q : a ≤ℤ greatest = h.high in let r : least ≤ℤ b = k.low in let s : b ≤ℤ greatest = k.high in
    omega (arith, ints)

difference_small : (a b : ℤ) → IsInt a → IsInt b → unsigned_abs (a -ℤ b) ≤ 4294967296
difference_small a b h k =
    let p : least ≤ℤ a = h.low in let q : a ≤ℤ greatest = h.high in let r : least ≤ℤ b = k.low in let s : b ≤ℤ greatest = k.high in
    omega (arith, ints)

pub multiple_back : (l m : ℤ) → IsInt l → IsInt m → m ≢ pos 0 → to_z w64 (of_z w64 (to_z w64 (of_z w64 l) -ℤ to_z w64 (of_z w64 (int_rem (to_z w64 (of_z w64 l)) (to_z w64 (of_z w64 m)))))) ≡ l -ℤ int_rem l m
multiple_back l m h k z = rw (int_back l h, int_back m k, int_back (int_rem l m) (rem_in_int l m k z)) (difference_back l (int_rem l m) h (rem_in_int l m k z))

pub multiple_small : (l m : ℤ) → IsInt l → IsInt m → m ≢ pos 0 → unsigned_abs (l -ℤ int_rem l m) ≤ 4294967296
multiple_small l m h k z = difference_small l (int_rem l m) h (rem_in_int l m k z)

pub small_back : (k : ℤ) → unsigned_abs k ≤ 4294967296 → to_z w64 (of_z w64 k) ≡ k
small_back k h = omega (arith, ints)

plain_fits : (a k : ℤ) → IsInt a → unsigned_abs k ≤ 4294967296 → FitsSigned w64 (a -ℤ k)
plain_fits a k h s = let p : least ≤ℤ a = h.low in let q : a ≤ℤ greatest = h.high in omega (arith, ints)

plain_back : (a k : ℤ) → IsInt a → unsigned_abs k ≤ 4294967296 → to_z w64 (of_z w64 (a -ℤ k)) ≡ a -ℤ k
plain_back a k h s = let p : least ≤ℤ a = h.low in let q : a ≤ℤ greatest = h.high in omega (arith, ints)

pub less_fits : (a k : ℤ) → IsInt a → unsigned_abs k ≤ 4294967296 → FitsSigned w64 (to_z w64 (of_z w64 a) -ℤ to_z w64 (of_z w64 k))
less_fits a k h s = rw (int_back a h, small_back k s) (plain_fits a k h s)

pub less_back : (a k : ℤ) → IsInt a → unsigned_abs k ≤ 4294967296 → to_z w64 (of_z w64 (to_z w64 (of_z w64 a) -ℤ to_z w64 (of_z w64 k))) ≡ a -ℤ k
less_back a k h s = rw (int_back a h, small_back k s) (plain_back a k h s)

pub residue_small : (b : Strided) → IsOwn b → unsigned_abs b.stride.residue ≤ 4294967296
residue_small b i =
    by_modulus b.stride.modulus
    (λ t z. let (p, q) = own_residue b i z in zero_small b.stride.residue p q)
    (λ t p. some_small b.stride.residue b.stride.modulus (i.residue.low p) (i.residue.high p) i.modulus)
  where
    zero_small : (c : ℤ) → least ≤ℤ c → c ≤ℤ greatest → unsigned_abs c ≤ 4294967296
    zero_small c p q = omega (arith, ints)

    some_small : (c : ℤ) (m : ℕ) → pos 0 ≤ℤ c → c <ℤ pos m → m ≤ 4294967295 → unsigned_abs c ≤ 4294967296
    some_small c m p q r = omega (arith, ints)
