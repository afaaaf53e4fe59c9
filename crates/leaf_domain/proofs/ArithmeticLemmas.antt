-- The arithmetic of ranges holds each result.
use Rattle.std.proofs.Common.{◌≡◌, ◌⊎◌, inl, inr, ℕ, zero, suc, ℤ, pos, negsuc, neg_ℤ, ◌+ℤ◌, ◌-ℤ◌, ◌*ℤ◌, ◌≤ℤ◌, ◌<ℤ◌, ◌/◌, ◌≤◌, ◌<◌, arith, int_div, int_rem, int_lt, unsigned_abs, ◌≢◌, ◌∙◌, ap, sym, Bool, true, false, if◌then◌else◌, ◌&&◌, ◌||◌, Some, None, refl}
use Rattle.std.proofs.Math.Nat.{div-mul-le_self, mul-le-mul_right, mul-le-mul_left, mod-eq_of_lt, mod-le}
use Rattle.std.proofs.Math.IntN.{*ℤ_comm}
use Rattle.std.proofs.lemmas.Nat.{le-div}
use Rattle.std.proofs.lemmas.Int.{ints, clamps, rem_below}
use Rattle.std.specs.Ordering.{int_eq}
use Rattle.std.specs.Int.{int_min, int_max}
use borrow.Author.Differences.{le_out}
use Rattle.leaf_domain.specs.declared.range.Range.{Range}
use Rattle.leaf_domain.specs.Ranges.{Within, spread_of, hull_of, is_empty_range, sums_of, differences_of, products_of, quotients_of, all_quotients_of, remainders_of, size_of, greatest_size_of, least_divisor_of, low_left_of, high_left_of, is_zero_range, is_single, is_smaller_of, bounded_remainders, remainder_of_singles, empty_range, arithmetic_range, arithmetic_of, ArithmeticHolds}
use Rattle.std.proofs.lemmas.Bool.{false≢true}
use Rattle.c_tree.specs.declared.tree.Op.{Op}
use Rattle.c_tree.specs.declared.tree.Op.TheVariants.{Add, Sub, Mul, Div, Rem}
use Rattle.c_tree.specs.Value.{least}
use Rattle.leaf_domain.specs.Ranges.{exact}
use Rattle.leaf_domain.specs.Leaves.{IsStepsFrom}
use Rattle.leaf_domain.proofs.RangeEquations.{quotients_some}

-- ---- sums and products
sums_hold : (a b : Range) (n m : ℤ) → Within n a → Within m b → Within (n +ℤ m) (sums_of a b)
sums_hold a b n m h k = record { low = omega (arith, ints); high = omega (arith, ints) }

differences_hold : (a b : Range) (n m : ℤ) → Within n a → Within m b → Within (n -ℤ m) (differences_of a b)
differences_hold a b n m h k = record { low = omega (arith, ints); high = omega (arith, ints) }

-- x lies between p and q, whichever is the lesser
record Between (x p q : ℤ) : Type 0 where
  low : int_min p q ≤ℤ x
  high : x ≤ℤ int_max p q

mul_mono : (x y : ℤ) (k : ℕ) → x ≤ℤ y → (x *ℤ pos k) ≤ℤ (y *ℤ pos k)
mul_mono x y k h = omega (arith, ints, mul-le-mul_right k (le_out x y h))

mul_anti : (x y : ℤ) (k : ℕ) → x ≤ℤ y → (y *ℤ negsuc k) ≤ℤ (x *ℤ negsuc k)
mul_anti x y k h = omega (arith, ints, mul-le-mul_right (suc k) (le_out x y h))

mul_between : (n l h c : ℤ) → l ≤ℤ n → n ≤ℤ h → Between (n *ℤ c) (l *ℤ c) (h *ℤ c)
mul_between n l h (pos k) p q = record {
  low = omega (arith, ints, clamps, mul_mono l n k p);
  high = omega (arith, ints, clamps, mul_mono n h k q);
}
mul_between n l h (negsuc k) p q = record {
  low = omega (arith, ints, clamps, mul_anti n h k q);
  high = omega (arith, ints, clamps, mul_anti l n k p);
}

mul_between_right : (n l h c : ℤ) → l ≤ℤ n → n ≤ℤ h → Between (c *ℤ n) (c *ℤ l) (c *ℤ h)
mul_between_right n l h c p q = rw (*ℤ_comm c n, *ℤ_comm c l, *ℤ_comm c h) (mul_between n l h c p q)

spread_holds : {x p q i j k l : ℤ} → Between x p q → Between p i j → Between q k l → Within x (spread_of i j k l)
spread_holds h f g = record { low = omega (arith, ints, clamps); high = omega (arith, ints, clamps) }

products_hold : (a b : Range) (n m : ℤ) → Within n a → Within m b → Within (n *ℤ m) (products_of a b)
products_hold a b n m h k =
    spread_holds (mul_between n a.low a.high m h.low h.high) (mul_between_right m b.low b.high a.low k.low k.high) (mul_between_right m b.low b.high a.high k.low k.high)

-- ---- quotients
div_mono : (a b k : ℕ) → 0 < k → a ≤ b → a / k ≤ b / k
div_mono a b k p h = le-div (a / k) b k p (omega (arith, div-mul-le_self a k))

div_anti : (a k l : ℕ) → 0 < k → k ≤ l → a / l ≤ a / k
div_anti a k l p h = le-div (a / l) a k p (omega (arith, div-mul-le_self a l, mul-le-mul_left (a / l) h))

quot_mono : (n m : ℤ) (k : ℕ) → 0 < k → n ≤ℤ m → int_div n (pos k) ≤ℤ int_div m (pos k)
quot_mono (pos a) (pos b) k p h = omega (arith, ints, div_mono a b k p (omega (arith, ints)))
quot_mono (pos a) (negsuc b) k p h = absurd (omega (arith, ints))
quot_mono (negsuc a) (pos b) k p h = omega (arith, ints)
quot_mono (negsuc a) (negsuc b) k p h = omega (arith, ints, div_mono (suc b) (suc a) k p (omega (arith, ints)))

quot_between : (n l h : ℤ) (k : ℕ) → 0 < k → l ≤ℤ n → n ≤ℤ h → Between (int_div n (pos k)) (int_div l (pos k)) (int_div h (pos k))
quot_between n l h k z p q = record {
  low = omega (arith, ints, clamps, quot_mono l n k z p);
  high = omega (arith, ints, clamps, quot_mono n h k z q);
}

divisor_between : (n : ℤ) (k l h : ℕ) → 0 < l → l ≤ k → k ≤ h → Between (int_div n (pos k)) (int_div n (pos l)) (int_div n (pos h))
divisor_between (pos a) k l h z p q =
    let f : a / h ≤ a / k = div_anti a k h (omega arith) q in let g : a / k ≤ a / l = div_anti a l k z p in
    record { low = omega (arith, ints, clamps); high = omega (arith, ints, clamps) }
divisor_between (negsuc a) k l h z p q =
    let f : suc a / h ≤ suc a / k = div_anti (suc a) k h (omega arith) q in let g : suc a / k ≤ suc a / l = div_anti (suc a) l k z p in
    record { low = omega (arith, ints, clamps); high = omega (arith, ints, clamps) }

quot_neg : (n : ℤ) (k : ℕ) → int_div n (negsuc k) ≡ neg_ℤ (int_div n (pos (suc k)))
quot_neg (pos a) k = refl
quot_neg (negsuc a) k = omega (arith, ints)

positive_quotients : (a : Range) (n : ℤ) (l k h : ℕ) → Within n a → 0 < l → l ≤ k → k ≤ h → Within (int_div n (pos k)) (spread_of (int_div a.low (pos l)) (int_div a.low (pos h)) (int_div a.high (pos l)) (int_div a.high (pos h)))
positive_quotients a n l k h w z p q =
    spread_holds (quot_between n a.low a.high k (omega arith) w.low w.high) (divisor_between a.low k l h z p q) (divisor_between a.high k l h z p q)

turned : {x p q : ℤ} → Between x p q → Between (neg_ℤ x) (neg_ℤ p) (neg_ℤ q)
turned h = record { low = omega (arith, ints, clamps); high = omega (arith, ints, clamps) }

swapped : {x p q : ℤ} → Between x p q → Between x q p
swapped h = record { low = omega (arith, ints, clamps); high = omega (arith, ints, clamps) }

negative_quotients : (a : Range) (n : ℤ) (l k h : ℕ) → Within n a → h ≤ k → k ≤ l → Within (int_div n (negsuc k)) (spread_of (int_div a.low (negsuc l)) (int_div a.low (negsuc h)) (int_div a.high (negsuc l)) (int_div a.high (negsuc h)))
negative_quotients a n l k h w p q =
    rw (quot_neg n k, quot_neg a.low l, quot_neg a.low h, quot_neg a.high l, quot_neg a.high h)
    (spread_holds (turned (quot_between n a.low a.high (suc k) (omega arith) w.low w.high))
    (turned (swapped (divisor_between a.low (suc k) (suc h) (suc l) (omega arith) (omega arith) (omega arith))))
    (turned (swapped (divisor_between a.high (suc k) (suc h) (suc l) (omega arith) (omega arith) (omega arith)))))

signed_quotients : (a : Range) (n l d h : ℤ) → Within n a → l ≤ℤ d → d ≤ℤ h → (pos 0 <ℤ l) ⊎ (h <ℤ pos 0) → Within (int_div n d) (spread_of (int_div a.low l) (int_div a.low h) (int_div a.high l) (int_div a.high h))
signed_quotients a n (pos l) (pos d) (pos h) w p q (inl s) = positive_quotients a n l d h w (omega (arith, ints)) (omega (arith, ints)) (omega (arith, ints))
signed_quotients a n (negsuc l) (negsuc d) (negsuc h) w p q (inr s) = negative_quotients a n l d h w (omega (arith, ints)) (omega (arith, ints))
signed_quotients a n l (pos d) h w p q (inr s) = absurd (omega (arith, ints))
signed_quotients a n (pos l) d (negsuc h) w p q s = absurd (omega (arith, ints))
signed_quotients a n (negsuc l) d h w p q (inl s) = absurd (omega (arith, ints))
signed_quotients a n l (negsuc d) h w p q (inl s) = absurd (omega (arith, ints))
signed_quotients a n l d (pos h) w p q (inr s) = absurd (omega (arith, ints))

not_under : (h l : ℤ) → l ≤ℤ h → int_lt h l ≡ false
not_under h l p = grind (arith, ints)

quotients_hold : (a : Range) (n l d h : ℤ) → Within n a → l ≤ℤ d → d ≤ℤ h → (pos 0 <ℤ l) ⊎ (h <ℤ pos 0) → Within (int_div n d) (quotients_of a l h)
quotients_hold a n l d h w p q s = rw (quotients_some a l h (not_under h l (omega (arith, ints)))) (signed_quotients a n l d h w p q s)

pub hull_first : (x : ℤ) (p q : Range) → Within x p → Within x (hull_of p q)
hull_first x p q h = grind (arith, ints, clamps)

pub hull_second : (x : ℤ) (p q : Range) → Within x q → Within x (hull_of p q)
hull_second x p q h = grind (arith, ints, clamps)

all_quotients_hold : (a b : Range) (n m : ℤ) → Within n a → Within m b → m ≢ pos 0 → Within (int_div n m) (all_quotients_of a b)
all_quotients_hold a b n (pos zero) w v z = absurd (z refl)
all_quotients_hold a b n (pos (suc m)) w v z =
    hull_first (int_div n (pos (suc m))) (quotients_of a (int_max b.low (pos 1)) b.high) (quotients_of a b.low (int_min b.high (negsuc 0)))
    (quotients_hold a n (int_max b.low (pos 1)) (pos (suc m)) b.high w (omega (arith, ints, clamps)) v.high (inl (omega (arith, ints, clamps))))
all_quotients_hold a b n (negsuc m) w v z =
    hull_second (int_div n (negsuc m)) (quotients_of a (int_max b.low (pos 1)) b.high) (quotients_of a b.low (int_min b.high (negsuc 0)))
    (quotients_hold a n b.low (negsuc m) (int_min b.high (negsuc 0)) w v.low (omega (arith, ints, clamps)) (inr (omega (arith, ints, clamps))))

-- ---- remainders
-- what is known of the remainder r of n by m
pub record IsLeft (n m r : ℤ) : Type 0 where
  pub low : int_min n (pos 0) ≤ℤ r
  pub high : r ≤ℤ int_max n (pos 0)
  pub size : unsigned_abs r < unsigned_abs m

size_pos : (m : ℤ) → m ≢ pos 0 → 0 < unsigned_abs m
size_pos (pos zero) z = absurd (z refl)
size_pos (pos (suc n)) z = omega arith
size_pos (negsuc n) z = omega arith

pub rem_is_left : (n m : ℤ) → m ≢ pos 0 → IsLeft n m (int_rem n m)
rem_is_left (pos a) m z = record {
  low = omega (arith, ints, clamps);
  high = omega (arith, ints, clamps, mod-le a (unsigned_abs m));
  size = rem_below (pos a) m (size_pos m z);
}
rem_is_left (negsuc a) m z = record {
  low = omega (arith, ints, clamps, mod-le (suc a) (unsigned_abs m));
  high = omega (arith, ints, clamps);
  size = rem_below (negsuc a) m (size_pos m z);
}

rem_of_smaller : (n m : ℤ) → unsigned_abs n < unsigned_abs m → int_rem n m ≡ n
rem_of_smaller (pos a) m h = ap pos (mod-eq_of_lt h)
rem_of_smaller (negsuc a) m h = ap (λ k. neg_ℤ (pos k)) (mod-eq_of_lt h)

same_from_int_eq : (n m : ℤ) → int_eq n m ≡ true → n ≡ m
same_from_int_eq n m e = grind (arith, ints)

greatest_size_bounds : (a : Range) (n : ℤ) → Within n a → size_of n ≤ℤ greatest_size_of a
greatest_size_bounds a n h = omega (arith, ints, clamps)

least_divisor_bounds : (b : Range) (m : ℤ) → Within m b → m ≢ pos 0 → least_divisor_of b ≤ℤ size_of m
least_divisor_bounds b m h z = grind (arith, ints, size_pos m z)

low_left_bounds : (l n m r g : ℤ) → IsLeft n m r → l ≤ℤ n → size_of m ≤ℤ g → low_left_of l (g -ℤ pos 1) ≤ℤ r
low_left_bounds l n m r g h p q = grind (arith, ints, clamps)

high_left_bounds : (l n m r g : ℤ) → IsLeft n m r → n ≤ℤ l → size_of m ≤ℤ g → r ≤ℤ high_left_of l (g -ℤ pos 1)
high_left_bounds l n m r g h p q = grind (arith, ints, clamps)

zero_of_zero_range : (b : Range) (m : ℤ) → is_zero_range b ≡ true → Within m b → m ≡ pos 0
zero_of_zero_range b m e h = grind (arith, ints)

both_single : (a b : Range) (n m : ℤ) → (is_single a && is_single b) ≡ true → Within n a → Within m b → (a.low ≡ n) × (b.low ≡ m)
both_single a b n m e h k = grind (arith, ints)

single_holds : (n m : ℤ) → (n ≡ least → m ≡ negsuc 0 → ⊥) → Within (int_rem n m) (remainder_of_singles n m)
single_holds n m s = grind (arith, ints)

chain : (i j : ℕ) (g d : ℤ) → pos i ≤ℤ g → d ≤ℤ pos j → int_lt g d ≡ true → i < j
chain i j g d p q e = grind (arith, ints)

smaller_sizes : (a b : Range) (n m : ℤ) → is_smaller_of a b ≡ true → Within n a → Within m b → m ≢ pos 0 → unsigned_abs n < unsigned_abs m
smaller_sizes a b n m e h k z =
    chain (unsigned_abs n) (unsigned_abs m) (greatest_size_of a) (least_divisor_of b) (greatest_size_bounds a n h) (least_divisor_bounds b m k z) e

pub remainders_hold : (a b : Range) (n m : ℤ) → Within n a → Within m b → m ≢ pos 0 → (n ≡ least → m ≡ negsuc 0 → ⊥) → Within (int_rem n m) (remainders_of a b)
remainders_hold a b n m h k z s = by_tests (is_zero_range b) (is_single a && is_single b) (is_smaller_of a b) refl refl refl
  where
    by_tests : (t u v : Bool) → is_zero_range b ≡ t → (is_single a && is_single b) ≡ u → is_smaller_of a b ≡ v → Within (int_rem n m) (if t then empty_range else (if u then remainder_of_singles a.low b.low else (if v then a else bounded_remainders a b)))
    by_tests true u v e f g = absurd (z (zero_of_zero_range b m e k))
    by_tests false true v e f g = let (p, q) = both_single a b n m f h k in rw (p, q) (single_holds n m s)
    by_tests false false true e f g = rw (rem_of_smaller n m (smaller_sizes a b n m g h k z)) h
    by_tests false false false e f g = record {
      low = low_left_bounds a.low n m (int_rem n m) (greatest_size_of b) (rem_is_left n m z) h.low (greatest_size_bounds b m k);
      high = high_left_bounds a.high n m (int_rem n m) (greatest_size_of b) (rem_is_left n m z) h.high (greatest_size_bounds b m k);
    }

-- any number is so many steps of 1 from another
pub one_step : (l n : ℤ) → IsStepsFrom l 1 n
one_step l n = record { steps = n -ℤ l; value = omega (arith, ints) }

pub not_empty : (n : ℤ) (a : Range) → Within n a → is_empty_range a ≡ false
not_empty n a h = grind (arith, ints)

of_both : (op : Op) (a b : Range) → is_empty_range a ≡ false → is_empty_range b ≡ false → arithmetic_range op a b ≡ arithmetic_of op a b
of_both op a b e f = ap (λ t. if t then empty_range else arithmetic_of op a b) (ap (λ t. t || is_empty_range b) e ∙ f)

-- a quotient or a remainder, where it is told
told : (t : Bool) (x k : ℤ) → (if t then None else Some x) ≡ Some k → (t ≡ false) × (x ≡ k)
told true x k e = cc
told false x k e = (refl, cc)

apart : (m : ℤ) → int_eq m (pos 0) ≡ false → m ≢ pos 0
apart m e f = absurd (false≢true (sym e ∙ ap (λ z. int_eq z (pos 0)) f))

by_op : (op : Op) (a b : Range) (n m k : ℤ) → Within n a → Within m b → exact op n m ≡ Some k → (op ≡ Rem → n ≡ least → m ≡ negsuc 0 → ⊥) → Within k (arithmetic_of op a b)
by_op Add a b n m k h g e s = let f : n +ℤ m ≡ k = cc in rw (← f) (sums_hold a b n m h g)
by_op Sub a b n m k h g e s = let f : n -ℤ m ≡ k = cc in rw (← f) (differences_hold a b n m h g)
by_op Mul a b n m k h g e s = let f : n *ℤ m ≡ k = cc in rw (← f) (products_hold a b n m h g)
by_op Div a b n m k h g e s =
    let (z, f) = told (int_eq m (pos 0)) (int_div n m) k e in rw (← f) (all_quotients_hold a b n m h g (apart m z))
by_op Rem a b n m k h g e s =
    let (z, f) = told (int_eq m (pos 0)) (int_rem n m) k e in rw (← f) (remainders_hold a b n m h g (apart m z) (s refl))
by_op op a b n m k h g e s = cc

pub arithmetic_holds : ArithmeticHolds
arithmetic_holds op a b n m k h g e s = rw (of_both op a b (not_empty n a h) (not_empty m b g)) (by_op op a b n m k h g e s)
