-- Which numbers lie within int, and how large squares are.
use Rattle.std.proofs.Common.{◌≡◌, ◌≢◌, ◌*◌, ◌<◌, ◌≤◌, ℤ, pos, ◌*ℤ◌, ◌≤ℤ◌, int_le, int_rem, unsigned_abs, true, arith}
use Rattle.std.proofs.lemmas.Int.{ints, rem_below, unsigned_abs-mul}
use Rattle.std.proofs.Math.Nat.{mul-le-mul}
use Rattle.c_tree.specs.Value.{least, greatest, IsInt}
use Rattle.leaf_domain.specs.declared.range.Range.{Range}
use Rattle.leaf_domain.specs.Ranges.{IsInInt}
use Rattle.strides.specs.declared.strided.Strided.{Strided}
use Rattle.strides.specs.Strided.{IsOwn, range_of}
use Rattle.strides.proofs.StrideLaws.{both}
use Rattle.product_leaf.specs.Laws.StrideLaws.{stride_part_laws}
use Rattle.congruence_leaf.specs.Congruences.{is_int, is_in_int}
use Rattle.congruence_leaf.proofs.Narrow.{size_some}

pub rem_in_int : (n m : ℤ) → IsInt m → m ≢ pos 0 → IsInt (int_rem n m)
rem_in_int n m h z =
    let p : unsigned_abs (int_rem n m) < unsigned_abs m = rem_below n m (size_some m z) in
    let q : least ≤ℤ m = h.low in
    let r : m ≤ℤ greatest = h.high in
    record { low = omega (arith, ints); high = omega (arith, ints) }

pub own_in_int : (d : Strided) → IsOwn d → IsInInt (range_of d)
own_in_int d h = stride_part_laws.range_in_int d h

-- what the test of int tells
pub in_int_told : (a : Range) → is_in_int a ≡ true → IsInInt a
in_int_told a e = let (p, q) = both (is_int a.low) (is_int a.high) e in record { low = int_told a.low p; high = int_told a.high q }
  where
    at_most : (n m : ℤ) → int_le n m ≡ true → n ≤ℤ m
    at_most n m e = grind (arith, ints)

    int_told : (n : ℤ) → is_int n ≡ true → IsInt n
    int_told n e = let (p, q) = both (int_le least n) (int_le n greatest) e in record { low = at_most least n p; high = at_most n greatest q }

-- ---- squares of numbers of int
pub size_small : (n : ℤ) → IsInt n → unsigned_abs n ≤ 2147483648
size_small n h = let p : least ≤ℤ n = h.low in let q : n ≤ℤ greatest = h.high in omega (arith, ints)

pub square_small : (n : ℤ) → IsInt n → (n *ℤ n) ≤ℤ pos 4611686018427387904
square_small n h =
    let p : unsigned_abs n ≤ 2147483648 = size_small n h in
    let q : unsigned_abs n * unsigned_abs n ≤ 4611686018427387904 = mul-le-mul p p in
    let e : unsigned_abs (n *ℤ n) ≡ unsigned_abs n * unsigned_abs n = unsigned_abs-mul n n in
    omega (arith, ints)
