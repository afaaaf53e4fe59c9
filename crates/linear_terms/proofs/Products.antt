-- Products of two numbers of 64 bits fit 128 bits.
use Rattle.std.proofs.Common.{◌≡◌, ◌≤◌, ℤ, pos, negsuc, ◌*ℤ◌, FitsSigned, to_z, of_z, w64, unsigned_abs, arith, lit<}
use Rattle.std.specs.Int.{w128}
use Rattle.std.proofs.lemmas.Int.{to_z-of_z, fits_signed_mul}

wide : (a : ℤ) → FitsSigned w64 a → to_z w128 (of_z w128 a) ≡ a
wide a h = to_z-of_z w128 a (record { sfits = omega (arith, h.sfits) })

size : (a : ℤ) → FitsSigned w64 a → unsigned_abs a ≤ 9223372036854775808
size (pos n) h = omega (arith, h.sfits)
size (negsuc n) h = omega (arith, h.sfits)

pub product_wide : (a b : ℤ) → FitsSigned w64 a → FitsSigned w64 b → FitsSigned w128 (a *ℤ b)
product_wide a b h k = fits_signed_mul w128 a b 9223372036854775808 9223372036854775808 (size a h) (size b k) (lit< tt)

narrow : (a : ℤ) → FitsSigned w64 a → to_z w128 (of_z w128 (to_z w64 (of_z w64 a))) ≡ a
narrow a h = rw (to_z-of_z w64 a h) (wide a h)

pub product_back : (a b : ℤ) → FitsSigned w64 a → FitsSigned w64 b → to_z w128 (of_z w128 (to_z w128 (of_z w128 (to_z w64 (of_z w64 a))) *ℤ to_z w128 (of_z w128 (to_z w64 (of_z w64 b))))) ≡ a *ℤ b
product_back a b h k = rw (narrow a h, narrow b k) (to_z-of_z w128 (a *ℤ b) (product_wide a b h k))
