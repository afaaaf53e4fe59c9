-- What a comparison leaves of a range.
use Rattle.std.proofs.Common.{◌≡◌, ℤ, pos, ◌+ℤ◌, ◌-ℤ◌, ◌≤ℤ◌, int_lt, Bool, true, false, not, ap, refl, arith, if◌then◌else◌, ◌||◌}
use Rattle.std.specs.Int.{int_min, int_max}
use Rattle.std.specs.Ordering.{int_eq}
use Rattle.std.proofs.lemmas.Int.{ints, clamps}
use Rattle.leaf_domain.specs.declared.range.Range.{Range}
use Rattle.leaf_domain.specs.declared.compare.Compare.{Compare}
use Rattle.leaf_domain.specs.declared.compare.Compare.TheVariants.{Lt, Le, Gt, Ge, Eq, Ne}
use Rattle.leaf_domain.specs.Ranges.{Within, IsInInt, range_of_ends, range_at, empty_range, is_empty_range, is_single}
use Rattle.c_tree.specs.Value.{IsInt}
use Rattle.leaf_domain.proofs.ArithmeticLemmas.{not_empty}
use Rattle.leaf_domain.specs.Compares.{holds_between, mirror_of, negation_of, cut_of, cut_of_some, raised_past, lowered_past, without_number, CutHolds}

-- a range of two numbers is within `int` where it is empty or both are
pub ends_in_int : (l h : ℤ) → (l ≤ℤ h → IsInt l × IsInt h) → IsInInt (range_of_ends l h)
ends_in_int l h f = by_test (int_lt h l) refl
  where
    by_test : (t : Bool) → int_lt h l ≡ t → IsInInt (if t then empty_range else range_at l h)
    by_test true e = grind (arith, ints)
    by_test false e = let p = f (omega (arith, ints)) in record { low = p.0; high = p.1 }

cut_some_in_int : (op : Compare) (a b : Range) → IsInInt a → IsInInt b → IsInInt (cut_of_some op a b)
cut_some_in_int Lt a b h k = ends_in_int a.low (int_min a.high (b.high -ℤ pos 1)) (λ p. (h.low, record { low = omega (arith, ints, clamps); high = omega (arith, ints, clamps) }))
cut_some_in_int Le a b h k = ends_in_int a.low (int_min a.high b.high) (λ p. (h.low, record { low = omega (arith, ints, clamps); high = omega (arith, ints, clamps) }))
cut_some_in_int Gt a b h k = ends_in_int (int_max a.low (b.low +ℤ pos 1)) a.high (λ p. (record { low = omega (arith, ints, clamps); high = omega (arith, ints, clamps) }, h.high))
cut_some_in_int Ge a b h k = ends_in_int (int_max a.low b.low) a.high (λ p. (record { low = omega (arith, ints, clamps); high = omega (arith, ints, clamps) }, h.high))
cut_some_in_int Eq a b h k = ends_in_int (int_max a.low b.low) (int_min a.high b.high) (λ p. (record { low = omega (arith, ints, clamps); high = omega (arith, ints, clamps) }, record { low = omega (arith, ints, clamps); high = omega (arith, ints, clamps) }))
cut_some_in_int Ne a b h k = by_test (is_single b)
  where
    by_test : (t : Bool) → IsInInt (if t then without_number a b.low else a)
    by_test true = ends_in_int (raised_past a.low b.low) (lowered_past a.high b.low) (λ p. (grind (arith, ints), grind (arith, ints)))
    by_test false = h

pub cut_in_int : (op : Compare) (a b : Range) → IsInInt a → IsInInt b → IsInInt (cut_of op a b)
cut_in_int op a b h k = by_test (is_empty_range a || is_empty_range b)
  where
    by_test : (t : Bool) → IsInInt (if t then empty_range else cut_of_some op a b)
    by_test true = grind (arith, ints)
    by_test false = cut_some_in_int op a b h k

pub ends_hold : (n l h : ℤ) → l ≤ℤ n → n ≤ℤ h → Within n (range_of_ends l h)
ends_hold n l h p q = grind (arith, ints)

cut_some_holds : (op : Compare) (a b : Range) (n m : ℤ) → Within n a → Within m b → holds_between op n m ≡ true → Within n (cut_of_some op a b)
cut_some_holds Lt a b n m h k e = ends_hold n a.low (int_min a.high (b.high -ℤ pos 1)) h.low (omega (arith, ints, clamps))
cut_some_holds Le a b n m h k e = ends_hold n a.low (int_min a.high b.high) h.low (omega (arith, ints, clamps))
cut_some_holds Gt a b n m h k e = ends_hold n (int_max a.low (b.low +ℤ pos 1)) a.high (omega (arith, ints, clamps)) h.high
cut_some_holds Ge a b n m h k e = ends_hold n (int_max a.low b.low) a.high (omega (arith, ints, clamps)) h.high
cut_some_holds Eq a b n m h k e = let f : n ≡ m = same n m e in ends_hold n (int_max a.low b.low) (int_min a.high b.high) (omega (arith, ints, clamps)) (omega (arith, ints, clamps))
  where
    same : (i j : ℤ) → int_eq i j ≡ true → i ≡ j
    same i j g = grind (arith, ints)
cut_some_holds Ne a b n m h k e = by_test (is_single b) refl
  where
    one : (r : Range) (i : ℤ) → is_single r ≡ true → Within i r → r.low ≡ i
    one r i g w = grind (arith, ints)

    raised : (l i c : ℤ) → not (int_eq i c) ≡ true → l ≤ℤ i → raised_past l c ≤ℤ i
    raised l i c g p = grind (arith, ints)

    lowered : (l i c : ℤ) → not (int_eq i c) ≡ true → i ≤ℤ l → i ≤ℤ lowered_past l c
    lowered l i c g p = grind (arith, ints)

    by_test : (t : Bool) → is_single b ≡ t → Within n (if t then without_number a b.low else a)
    by_test true f = rw (one b m f k) (ends_hold n (raised_past a.low m) (lowered_past a.high m) (raised a.low n m e h.low) (lowered a.high n m e h.high))
    by_test false f = h

pub cut_holds : CutHolds
cut_holds op a b n m h k e = rw (not_empty n a h, not_empty m b k) (cut_some_holds op a b n m h k e)

pub mirrored : (op : Compare) (n m : ℤ) → holds_between (mirror_of op) m n ≡ holds_between op n m
mirrored Lt n m = refl
mirrored Le n m = refl
mirrored Gt n m = refl
mirrored Ge n m = refl
mirrored Eq n m = grind (arith, ints)
mirrored Ne n m = grind (arith, ints)

pub negation_holds : (op : Compare) (n m : ℤ) → holds_between op n m ≡ false → holds_between (negation_of op) n m ≡ true
negation_holds Lt n m e = grind (arith, ints)
negation_holds Le n m e = grind (arith, ints)
negation_holds Gt n m e = grind (arith, ints)
negation_holds Ge n m e = grind (arith, ints)
negation_holds Eq n m e = ap not e
negation_holds Ne n m e = grind (arith, ints)
