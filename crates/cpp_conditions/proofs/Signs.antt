-- Tests of whole numbers by the sign of a difference.
use Rattle.std.proofs.Common.{◌≡◌, suc, ◌*◌, ℤ, pos, negsuc, neg_ℤ, ◌-ℤ◌, ◌*ℤ◌, ◌≤ℤ◌, ◌<ℤ◌, int_lt, int_le, Bool, true, false, not, ◌&&◌, ap, refl, ◌∙◌, arith}
use Rattle.std.proofs.lemmas.Int.{ints}
use Rattle.std.proofs.lemmas.Cmp.{int_ranked}
use Rattle.std.proofs.Math.IntN.{pos-*ℤ-negsuc, negsuc-*ℤ-negsuc}
use Rattle.std.specs.declared.cmp.Ordering.{Ordering}
use Rattle.std.specs.declared.cmp.Ordering.TheVariants.{Less, Equal, Greater}
use Rattle.std.specs.Ordering.{int_cmp, int_eq, is_eq, MatchOrdering}
use Rattle.cpp_conditions.specs.Expressions.{bit, is_nonzero}

pub minus_one : (z : ℤ) → z *ℤ negsuc 0 ≡ neg_ℤ z
minus_one (pos n) = let e : n * 1 ≡ n = omega arith in pos-*ℤ-negsuc n 0 ∙ ap (λ x. neg_ℤ (pos x)) e
minus_one (negsuc n) = let e : suc n * 1 ≡ suc n = omega arith in negsuc-*ℤ-negsuc n 0 ∙ ap pos e

pub at_least : (x y : ℤ) → int_le (pos 0) (x -ℤ y) ≡ int_le y x
at_least x y = grind (arith, ints)

pub greater : (x y : ℤ) → int_le (pos 0) (x -ℤ y -ℤ pos 1) ≡ int_lt y x
greater x y = grind (arith, ints)

pub at_most : (x y : ℤ) → int_le (pos 0) (neg_ℤ (x -ℤ y)) ≡ int_le x y
at_most x y = grind (arith, ints)

pub less : (x y : ℤ) → int_le (pos 0) (neg_ℤ (x -ℤ y) -ℤ pos 1) ≡ int_lt x y
less x y = grind (arith, ints)

pub bit_of : (b : Bool) → is_nonzero (bit b) ≡ b
bit_of true = refl
bit_of false = refl

below : (z : ℤ) → z <ℤ pos 0 → int_le (pos 0) z ≡ false
below z h = grind (arith, ints)

above : (z : ℤ) → pos 0 ≤ℤ z → int_le (pos 0) z ≡ true
above z h = grind (arith, ints)

both_of : (a b c d : Bool) → a ≡ c → b ≡ d → (a && not b) ≡ (c && not d)
both_of a b c d p q = ap (λ x. x && not b) p ∙ ap (λ x. c && not x) q

sign_by : (o : Ordering) (z : ℤ) → MatchOrdering o (z <ℤ pos 0) (z ≡ pos 0) (pos 0 <ℤ z) → (int_le (pos 0) z && not (int_le (pos 0) (z -ℤ pos 1))) ≡ is_eq o
sign_by Less z m = both_of _ _ false false (below z m) (below (z -ℤ pos 1) (omega (arith, ints)))
sign_by Equal z m = both_of _ _ true false (above z (omega (arith, ints))) (below (z -ℤ pos 1) (omega (arith, ints)))
sign_by Greater z m = both_of _ _ true true (above z (omega (arith, ints))) (above (z -ℤ pos 1) (omega (arith, ints)))

-- 0 is at least 0, and 0 less one is not
pub zero_test : (z : ℤ) → (int_le (pos 0) z && not (int_le (pos 0) (z -ℤ pos 1))) ≡ int_eq z (pos 0)
zero_test z = sign_by (int_cmp z (pos 0)) z (int_ranked z (pos 0) _ refl)

equal_by : (o p : Ordering) (x y : ℤ) → MatchOrdering o ((x -ℤ y) <ℤ pos 0) ((x -ℤ y) ≡ pos 0) (pos 0 <ℤ (x -ℤ y)) → MatchOrdering p (x <ℤ y) (x ≡ y) (y <ℤ x) → is_eq o ≡ is_eq p
equal_by Less Less x y m n = refl
equal_by Less Equal x y m n = absurd (omega (arith, ints))
equal_by Less Greater x y m n = refl
equal_by Equal Less x y m n = absurd (omega (arith, ints))
equal_by Equal Equal x y m n = refl
equal_by Equal Greater x y m n = absurd (omega (arith, ints))
equal_by Greater Less x y m n = refl
equal_by Greater Equal x y m n = absurd (omega (arith, ints))
equal_by Greater Greater x y m n = refl

pub equal_test : (x y : ℤ) → int_eq (x -ℤ y) (pos 0) ≡ int_eq x y
equal_test x y = equal_by (int_cmp (x -ℤ y) (pos 0)) (int_cmp x y) x y (int_ranked (x -ℤ y) (pos 0) _ refl) (int_ranked x y _ refl)
