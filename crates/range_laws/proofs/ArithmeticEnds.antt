-- The ends of sums, differences, products and quotients are results.
use Rattle.std.proofs.Common.{◌≡◌, ◌≢◌, inl, inr, ℤ, pos, negsuc, ◌+ℤ◌, ◌-ℤ◌, ◌*ℤ◌, ◌≤ℤ◌, int_lt, int_div, Bool, true, false, if◌then◌else◌, ◌||◌, Some, None, refl, sym, ap, subst, arith}
use Rattle.std.proofs.lemmas.Int.{ints, clamps}
use Rattle.std.specs.Int.{int_min, int_max}
use Rattle.std.specs.Ordering.{int_eq}
use Rattle.c_tree.specs.declared.tree.Op.{Op}
use Rattle.c_tree.specs.declared.tree.Op.TheVariants.{Add, Sub, Mul, Div, Rem}
use Rattle.leaf_domain.specs.declared.range.Range.{Range}
use Rattle.leaf_domain.specs.Ranges.{Within, is_empty_range, empty_range, exact, spread_of, sums_of, differences_of, quotients_of, arithmetic_of, arithmetic_range}
use Rattle.range_laws.specs.Ends.{EndsAre}
use Rattle.range_laws.specs.Arithmetic.{IsResult, EndsAreResults, ArithmeticIsLeast, SumsAreExact}
use Rattle.range_laws.proofs.EndLemmas.{some, low_in, high_in, ends_none, ends_spread, ends_hull, least_by_ends}

-- ---- results of numbers of the operands
result : (op : Op) (a b : Range) (n m k : ℤ) → op ≢ Rem → Within n a → Within m b → exact op n m ≡ Some k → IsResult op a b k
result op a b n m k o v w e = record {
  left = n;
  right = m;
  left_within = v;
  right_within = w;
  told = e;
  goes_on = λ f g h. absurd (o f);
}

product : (a b : Range) (n m : ℤ) → Mul ≢ Rem → Within n a → Within m b → IsResult Mul a b (n *ℤ m)
product a b n m o v w = result Mul a b n m (n *ℤ m) o v w refl

-- a number of the range that is not 0
record IsDivisor (b : Range) (m : ℤ) : Type 0 where
  within : Within m b
  nonzero : int_eq m (pos 0) ≡ false

quotient : (a b : Range) (n m : ℤ) → Div ≢ Rem → Within n a → IsDivisor b m → IsResult Div a b (int_div n m)
quotient a b n m o v d = result Div a b n m (int_div n m) o v d.within (ap (λ t. if t then None else Some (int_div n m)) d.nonzero)

-- ---- quotients
ends_quotients : (a b : Range) (l h : ℤ) → Div ≢ Rem → a.low ≤ℤ a.high → (l ≤ℤ h → IsDivisor b l × IsDivisor b h) → EndsAre (IsResult Div a b) (quotients_of a l h)
ends_quotients a b l h o p f = by_test (int_lt h l) refl
  where
    low : {m : ℤ} → IsDivisor b m → IsResult Div a b (int_div a.low m)
    low {m} d = quotient a b a.low m o (low_in a p) d

    high : {m : ℤ} → IsDivisor b m → IsResult Div a b (int_div a.high m)
    high {m} d = quotient a b a.high m o (high_in a p) d

    by_test : (t : Bool) → int_lt h l ≡ t → EndsAre (IsResult Div a b) (if t then empty_range else spread_of (int_div a.low l) (int_div a.low h) (int_div a.high l) (int_div a.high h))
    by_test true e = ends_none (IsResult Div a b)
    by_test false e =
        let d = f (omega (arith, ints)) in
        ends_spread (IsResult Div a b) (int_div a.low l) (int_div a.low h) (int_div a.high l) (int_div a.high h) (low d.0) (low d.1) (high d.0) (high d.1)

positive : (m : ℤ) → pos 1 ≤ℤ m → int_eq m (pos 0) ≡ false
positive m p = grind (arith, ints)

negative : (m : ℤ) → m ≤ℤ negsuc 0 → int_eq m (pos 0) ≡ false
negative m p = grind (arith, ints)

positive_divisors : (b : Range) → int_max b.low (pos 1) ≤ℤ b.high → IsDivisor b (int_max b.low (pos 1)) × IsDivisor b b.high
positive_divisors b p = (
  record { within = record { low = omega (arith, ints, clamps); high = p }; nonzero = positive (int_max b.low (pos 1)) (omega (arith, ints, clamps)) },
  record { within = high_in b (omega (arith, ints, clamps)); nonzero = positive b.high (omega (arith, ints, clamps)) },
)

negative_divisors : (b : Range) → b.low ≤ℤ int_min b.high (negsuc 0) → IsDivisor b b.low × IsDivisor b (int_min b.high (negsuc 0))
negative_divisors b p = (
  record { within = low_in b (omega (arith, ints, clamps)); nonzero = negative b.low (omega (arith, ints, clamps)) },
  record { within = record { low = p; high = omega (arith, ints, clamps) }; nonzero = negative (int_min b.high (negsuc 0)) (omega (arith, ints, clamps)) },
)

-- ---- each operator
by_op : (op : Op) (a b : Range) → op ≢ Rem → a.low ≤ℤ a.high → b.low ≤ℤ b.high → EndsAre (IsResult op a b) (arithmetic_of op a b)
by_op Add a b o p q e = (
  result Add a b a.low b.low (a.low +ℤ b.low) o (low_in a p) (low_in b q) refl,
  result Add a b a.high b.high (a.high +ℤ b.high) o (high_in a p) (high_in b q) refl,
)
by_op Sub a b o p q e = (
  result Sub a b a.low b.high (a.low -ℤ b.high) o (low_in a p) (high_in b q) refl,
  result Sub a b a.high b.low (a.high -ℤ b.low) o (high_in a p) (low_in b q) refl,
)
by_op Mul a b o p q e =
    ends_spread (IsResult Mul a b) (a.low *ℤ b.low) (a.low *ℤ b.high) (a.high *ℤ b.low) (a.high *ℤ b.high)
    (product a b a.low b.low o (low_in a p) (low_in b q)) (product a b a.low b.high o (low_in a p) (high_in b q))
    (product a b a.high b.low o (high_in a p) (low_in b q)) (product a b a.high b.high o (high_in a p) (high_in b q)) e
by_op Div a b o p q e =
    ends_hull (IsResult Div a b) (quotients_of a (int_max b.low (pos 1)) b.high) (quotients_of a b.low (int_min b.high (negsuc 0)))
    (ends_quotients a b (int_max b.low (pos 1)) b.high o p (positive_divisors b))
    (ends_quotients a b b.low (int_min b.high (negsuc 0)) o p (negative_divisors b)) e
by_op Rem a b o p q e = absurd (o refl)
by_op op a b o p q e = ends_none (IsResult op a b) e

pub ends-results : EndsAreResults
ends-results op a b o = by_tests (is_empty_range a) (is_empty_range b) refl refl
  where
    by_tests : (t u : Bool) → is_empty_range a ≡ t → is_empty_range b ≡ u → EndsAre (IsResult op a b) (if t || u then empty_range else arithmetic_of op a b)
    by_tests true u d e = ends_none (IsResult op a b)
    by_tests false true d e = ends_none (IsResult op a b)
    by_tests false false d e = by_op op a b o (some a d) (some b e)

pub arithmetic-least : ArithmeticIsLeast
arithmetic-least op a b o = least_by_ends (IsResult op a b) (arithmetic_range op a b) (ends-results op a b o)

-- ---- each number of sums and differences
sum_met : (a b : Range) (k : ℤ) → Add ≢ Rem → a.low ≤ℤ a.high → b.low ≤ℤ b.high → Within k (sums_of a b) → IsResult Add a b k
sum_met a b k o p q w =
    result Add a b n (k -ℤ n) k o record { low = omega (arith, ints, clamps); high = omega (arith, ints, clamps, w.high) }
    record { low = omega (arith, ints, clamps, w.low); high = omega (arith, ints, clamps) } (ap Some (omega (arith, ints)))
  where
    n : ℤ
    n = int_max a.low (k -ℤ b.high)

difference_met : (a b : Range) (k : ℤ) → Sub ≢ Rem → a.low ≤ℤ a.high → b.low ≤ℤ b.high → Within k (differences_of a b) → IsResult Sub a b k
difference_met a b k o p q w =
    result Sub a b n (n -ℤ k) k o record { low = omega (arith, ints, clamps); high = omega (arith, ints, clamps, w.high) }
    record { low = omega (arith, ints, clamps); high = omega (arith, ints, clamps, w.low) } (ap Some (omega (arith, ints)))
  where
    n : ℤ
    n = int_max a.low (k +ℤ b.low)

within_some : (k : ℤ) (a b r : Range) → Within k (if is_empty_range a || is_empty_range b then empty_range else r) → (a.low ≤ℤ a.high) × (b.low ≤ℤ b.high) × Within k r
within_some k a b r = by_tests (is_empty_range a) (is_empty_range b) refl refl
  where
    by_tests : (t u : Bool) → is_empty_range a ≡ t → is_empty_range b ≡ u → Within k (if t || u then empty_range else r) → (a.low ≤ℤ a.high) × (b.low ≤ℤ b.high) × Within k r
    by_tests true u d e w = absurd (omega (arith, ints, w.low, w.high))
    by_tests false true d e w = absurd (omega (arith, ints, w.low, w.high))
    by_tests false false d e w = (some a d, some b e, w)

add_not_rem : Add ≢ Rem
add_not_rem e = cc

sub_not_rem : Sub ≢ Rem
sub_not_rem e = cc

pub sums-exact : SumsAreExact
sums-exact op a b k (inl e) = subst (λ x. Within k (arithmetic_range x a b) → IsResult x a b k) (sym e) (λ w. let s = within_some k a b (sums_of a b) w in sum_met a b k add_not_rem s.0 s.1 s.2)
sums-exact op a b k (inr e) = subst (λ x. Within k (arithmetic_range x a b) → IsResult x a b k) (sym e) (λ w. let s = within_some k a b (differences_of a b) w in difference_met a b k sub_not_rem s.0 s.1 s.2)
