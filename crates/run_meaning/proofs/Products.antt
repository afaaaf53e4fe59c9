-- A product of two numbers of `int` is far within 64 bits.
use Rattle.std.proofs.Common.{◌≡◌, ℕ, ◌≤◌, ◌*◌, ℤ, pos, negsuc, ◌*ℤ◌, ◌≤ℤ◌, to_z, of_z, w64, unsigned_abs, arith, lit<}
use Rattle.std.proofs.Math.Nat.{mul-le-mul_left, mul-le-mul_right}
use Rattle.std.proofs.lemmas.Int.{ints, to_z-of_z, fits_signed_mul, unsigned_abs-mul}
use Rattle.c_tree.specs.Value.{IsInt}

int_back : (n : ℤ) → IsInt n → to_z w64 (of_z w64 n) ≡ n
int_back n h = to_z-of_z w64 n (omega (arith, ints))

size_bound : (n : ℤ) → IsInt n → unsigned_abs n ≤ 2147483648
size_bound n h = omega (arith, ints)

pub product_back : (n m : ℤ) → IsInt n → IsInt m → to_z w64 (of_z w64 (to_z w64 (of_z w64 n) *ℤ to_z w64 (of_z w64 m))) ≡ n *ℤ m
product_back n m hn hm = rw (int_back n hn, int_back m hm) (to_z-of_z w64 (n *ℤ m) (fits_signed_mul w64 n m 2147483648 2147483648 (size_bound n hn) (size_bound m hm) (lit< tt)))

product_size : (a b : ℕ) → a ≤ 2147483648 → b ≤ 2147483648 → a * b ≤ 4611686018427387904
product_size a b h k =
    let p : a * b ≤ 2147483648 * b = mul-le-mul_right b h in
    let q : 2147483648 * b ≤ 2147483648 * 2147483648 = mul-le-mul_left 2147483648 k in
    omega arith

from_size : (n : ℤ) → unsigned_abs n ≤ 4611686018427387904 → (negsuc 4611686018427387904 ≤ℤ n) × (n ≤ℤ pos 4611686018427387904)
from_size n h = (omega (arith, ints), omega (arith, ints))

pub product_within : (n m : ℤ) → IsInt n → IsInt m → (negsuc 4611686018427387904 ≤ℤ (n *ℤ m)) × ((n *ℤ m) ≤ℤ pos 4611686018427387904)
product_within n m hn hm = from_size (n *ℤ m) (rw (unsigned_abs-mul n m) (product_size (unsigned_abs n) (unsigned_abs m) (size_bound n hn) (size_bound m hm)))
