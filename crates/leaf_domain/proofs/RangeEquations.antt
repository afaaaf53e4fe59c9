-- Signed numbers that were passed or computed are themselves.
use Rattle.std.proofs.Common.{◌≡◌, ℤ, pos, negsuc, ◌+ℤ◌, ◌-ℤ◌, ◌*ℤ◌, ◌≤◌, FitsSigned, to_z, of_z, w64, arith, int_div, unsigned_abs, lit<, ◌∙◌, ap, suc, int_lt, true, false, if◌then◌else◌, ◌&&◌}
use Rattle.std.proofs.Math.Nat.{div-le_self}
use Rattle.std.proofs.lemmas.Int.{ints, to_z-of_z, fits_signed_mul, fits_signed_from_abs}
use Rattle.leaf_domain.specs.declared.range.Range.{Range}
use Rattle.leaf_domain.specs.Ranges.{quotients_of, spread_of, empty_range, is_zero_range, is_single, remainders_of, remainder_of_singles, is_smaller_of, bounded_remainders, hull_of, all_quotients_of, greatest_size_of, low_left_of, high_left_of, range_at, range_of_ends}
use Rattle.c_tree.specs.Value.{IsInt}
use Rattle.std.specs.Int.{int_min, int_max}

pub ruleset signed = (ints, to_z-of_z)

pub fits_int : (n : ℤ) → IsInt n → FitsSigned w64 n
fits_int n h = omega (arith, ints)

pub int_back : (n : ℤ) → IsInt n → to_z w64 (of_z w64 n) ≡ n
int_back n h = to_z-of_z w64 n (fits_int n h)

pub sum_back : (n m : ℤ) → IsInt n → IsInt m → to_z w64 (of_z w64 (to_z w64 (of_z w64 n) +ℤ to_z w64 (of_z w64 m))) ≡ n +ℤ m
sum_back n m hn hm = rw (int_back n hn, int_back m hm) (to_z-of_z w64 (n +ℤ m) (omega (arith, ints)))

pub difference_back : (n m : ℤ) → IsInt n → IsInt m → to_z w64 (of_z w64 (to_z w64 (of_z w64 n) -ℤ to_z w64 (of_z w64 m))) ≡ n -ℤ m
difference_back n m hn hm = rw (int_back n hn, int_back m hm) (to_z-of_z w64 (n -ℤ m) (omega (arith, ints)))

abs_bound : (n : ℤ) → IsInt n → unsigned_abs n ≤ 2147483648
abs_bound n h = omega (arith, ints)

pub product_fits : (n m : ℤ) → IsInt n → IsInt m → FitsSigned w64 (n *ℤ m)
product_fits n m hn hm = fits_signed_mul w64 n m 2147483648 2147483648 (abs_bound n hn) (abs_bound m hm) (lit< tt)

pub product_back : (n m : ℤ) → IsInt n → IsInt m → to_z w64 (of_z w64 (to_z w64 (of_z w64 n) *ℤ to_z w64 (of_z w64 m))) ≡ n *ℤ m
product_back n m hn hm = rw (int_back n hn, int_back m hm) (to_z-of_z w64 (n *ℤ m) (product_fits n m hn hm))

pub product_is : (n m k : ℤ) → IsInt n → IsInt m → k ≡ to_z w64 (of_z w64 n) *ℤ to_z w64 (of_z w64 m) → to_z w64 (of_z w64 k) ≡ n *ℤ m
product_is n m k hn hm e = ap (λ i. to_z w64 (of_z w64 i)) e ∙ product_back n m hn hm

abs_quotient : (n m : ℤ) → unsigned_abs (int_div n m) ≤ unsigned_abs n
abs_quotient (pos a) (pos b) = div-le_self a b
abs_quotient (pos a) (negsuc b) = omega (arith, ints, div-le_self a (suc b))
abs_quotient (negsuc a) (pos b) = omega (arith, ints, div-le_self (suc a) b)
abs_quotient (negsuc a) (negsuc b) = div-le_self (suc a) (suc b)

pub quotient_fits : (n m : ℤ) → IsInt n → FitsSigned w64 (int_div n m)
quotient_fits n m h = fits_signed_from_abs w64 (int_div n m) (omega (arith, abs_quotient n m, abs_bound n h))

pub quotient_back : (n m : ℤ) → IsInt n → FitsSigned w64 m → to_z w64 (of_z w64 (int_div (to_z w64 (of_z w64 n)) (to_z w64 (of_z w64 m)))) ≡ int_div n m
quotient_back n m hn hm = rw (int_back n hn, to_z-of_z w64 m hm) (to_z-of_z w64 (int_div n m) (quotient_fits n m hn))

-- the quotients, where there are divisors
pub quotients_some : (a : Range) (l h : ℤ) → int_lt h l ≡ false → quotients_of a l h ≡ spread_of (int_div a.low l) (int_div a.low h) (int_div a.high l) (int_div a.high h)
quotients_some a l h e = ap (λ t. if t then empty_range else spread_of (int_div a.low l) (int_div a.low h) (int_div a.high l) (int_div a.high h)) e

-- the second branch of remainders
pub remainders_singles : (a b : Range) → is_zero_range b ≡ false → (is_single a && is_single b) ≡ true → remainders_of a b ≡ remainder_of_singles a.low b.low
remainders_singles a b e f =
    ap (λ t. if t then empty_range else (if is_single a && is_single b then remainder_of_singles a.low b.low else (if is_smaller_of a b then a else bounded_remainders a b))) e
    ∙ ap (λ t. if t then remainder_of_singles a.low b.low else (if is_smaller_of a b then a else bounded_remainders a b)) f

pub all_quotients_is : (a b p q r : Range) (m n : ℤ) → m ≡ int_max b.low (pos 1) → n ≡ int_min b.high (negsuc 0) → p ≡ quotients_of a m b.high → q ≡ quotients_of a b.low n → r ≡ hull_of p q → r ≡ all_quotients_of a b
all_quotients_is a b p q r m n em en ep eq er =
    er ∙ ap (λ x. hull_of x q) (ep ∙ ap (λ l. quotients_of a l b.high) em)
    ∙ ap (λ x. hull_of (quotients_of a (int_max b.low (pos 1)) b.high) x) (eq ∙ ap (λ h. quotients_of a b.low h) en)

pub bounded_is : (a b : Range) (m l h : ℤ) → m ≡ greatest_size_of b → l ≡ low_left_of a.low (m -ℤ pos 1) → h ≡ high_left_of a.high (m -ℤ pos 1) → range_at l h ≡ bounded_remainders a b
bounded_is a b m l h em el eh =
    ap (λ x. range_at x h) (el ∙ ap (λ k. low_left_of a.low (k -ℤ pos 1)) em)
    ∙ ap (λ x. range_at (low_left_of a.low (greatest_size_of b -ℤ pos 1)) x) (eh ∙ ap (λ k. high_left_of a.high (k -ℤ pos 1)) em)

pub new_is : (a r : Range) (l h m n : ℤ) → r ≡ range_of_ends l h → l ≡ m → h ≡ n → r ≡ range_of_ends m n
new_is a r l h m n e f g = e ∙ ap (λ x. range_of_ends x h) f ∙ ap (λ x. range_of_ends m x) g
