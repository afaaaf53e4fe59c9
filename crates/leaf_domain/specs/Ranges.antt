-- Ranges of whole numbers, and what the arithmetic of `int` makes of them.
use Rattle.std.specs.Prelude.{Option, Some, None, ◌≡◌, ◌⊎◌, ℤ, pos, negsuc, neg_ℤ, ◌+ℤ◌, ◌-ℤ◌, ◌*ℤ◌, ◌≤ℤ◌, ◌<ℤ◌, int_div, int_rem, int_lt, int_le, Bool, true, false, if◌then◌else◌, ◌&&◌, ◌||◌, unsigned_abs}
use Rattle.std.specs.Int.{int_min, int_max}
use Rattle.std.specs.Ordering.{int_eq}
use Rattle.c_tree.specs.declared.tree.Op.{Op}
use Rattle.c_tree.specs.declared.tree.Op.TheVariants.{Add, Sub, Mul, Div, Rem}
use Rattle.c_tree.specs.Value.{least, greatest, IsInt, wrapped}
use Rattle.leaf_domain.specs.declared.range.Range.{Range}

-- the range from a low to a high, where the empty one is always 1 to 0
abbrev pub range_of_ends : ℤ → ℤ → Range
range_of_ends l h = if int_lt h l then record { low = pos 1; high = pos 0 } else record { low = l; high = h }

abbrev pub range_at : ℤ → ℤ → Range
range_at l h = record { low = l; high = h }

abbrev pub empty_range : Range
empty_range = record { low = pos 1; high = pos 0 }

abbrev pub is_empty_range : Range → Bool
is_empty_range a = int_lt a.high a.low

-- a number lies in a range
pub record Within (n : ℤ) (a : Range) : Type 0 where
  pub low : a.low ≤ℤ n
  pub high : n ≤ℤ a.high

abbrev pub whole_int : Range
whole_int = record { low = least; high = greatest }

-- both ends are within `int`
pub record IsInInt (a : Range) : Type 0 where
  pub low : IsInt a.low
  pub high : IsInt a.high

-- the number that an arithmetic operator gives, before the test of `int`; none for a divisor 0
abbrev pub exact : Op → ℤ → ℤ → Option ℤ
exact Add n m = Some (n +ℤ m)
exact Sub n m = Some (n -ℤ m)
exact Mul n m = Some (n *ℤ m)
exact Div n m = if int_eq m (pos 0) then None else Some (int_div n m)
exact Rem n m = if int_eq m (pos 0) then None else Some (int_rem n m)
exact op n m = None

abbrev pub meet_of : Range → Range → Range
meet_of a b = range_of_ends (int_max a.low b.low) (int_min a.high b.high)

abbrev pub clip_of : Range → Range
clip_of a = meet_of a whole_int

-- the range from a low so much upward, where that is within `int`, else all of `int`
abbrev pub upward_of : ℤ → ℤ → Range
upward_of l width = if int_le width (greatest -ℤ l) then range_at l (l +ℤ width) else whole_int

-- a range whose low is brought within `int` by a multiple of 2^32, and its high by the same; all of `int` where that does not fit
abbrev pub shifted_of : ℤ → ℤ → Range
shifted_of l h = upward_of (wrapped l) (h -ℤ l)

-- the range of the wrapped numbers of a range
abbrev pub fold_of : Range → Range
fold_of a = if is_empty_range a then empty_range else shifted_of a.low a.high

-- the range with so much added to each number
abbrev pub shifted_by : ℤ → Range → Range
shifted_by d a = range_at (a.low +ℤ d) (a.high +ℤ d)

-- so many times 2^32
abbrev pub turns : ℤ → ℤ
turns k = pos 4294967296 *ℤ k

-- The folded range is the range shifted by a multiple of 2^32 that brings it within `int`, or it is all of `int` and no
-- multiple does so. It has each wrapped number of the range.
pub record FoldHolds (a : Range) : Type 0 where
  pub empty : is_empty_range a ≡ true → fold_of a ≡ empty_range
  pub shifts :
      is_empty_range a ≡ false
      → ((k : ℤ) × IsInInt (shifted_by (turns k) a) × (fold_of a ≡ shifted_by (turns k) a))
      ⊎ (((k : ℤ) → IsInInt (shifted_by (turns k) a) → ⊥) × (fold_of a ≡ whole_int))
  pub holds : (n : ℤ) → Within n a → Within (wrapped n) (fold_of a)

-- from the lesser to the greater of two numbers
abbrev pub between_of : ℤ → ℤ → Range
between_of p q = record { low = int_min p q; high = int_max p q }

-- from the lesser low to the greater high
abbrev pub cover_of : Range → Range → Range
cover_of a b = record { low = int_min a.low b.low; high = int_max a.high b.high }

-- the least range that has both
abbrev pub hull_of : Range → Range → Range
hull_of a b = if is_empty_range a then b else (if is_empty_range b then a else cover_of a b)

-- from the least to the greatest of four numbers
abbrev pub spread_of : ℤ → ℤ → ℤ → ℤ → Range
spread_of p q r s = cover_of (between_of p q) (between_of r s)

-- the quotients by the divisors from `l` to `h`, which are all above 0 or all below it
abbrev pub quotients_of : Range → ℤ → ℤ → Range
quotients_of a l h =
    if int_lt h l then empty_range
    else spread_of (int_div a.low l) (int_div a.low h) (int_div a.high l) (int_div a.high h)

-- the size of a number
abbrev pub size_of : ℤ → ℤ
size_of n = pos (unsigned_abs n)

-- the greatest size of a number of a range
abbrev pub greatest_size_of : Range → ℤ
greatest_size_of a = int_max (size_of a.low) (size_of a.high)

-- the least size of a divisor, 0 left out
abbrev pub least_divisor_of : Range → ℤ
least_divisor_of b = if int_lt (pos 0) b.low then b.low else (if int_lt b.high (pos 0) then neg_ℤ b.high else pos 1)

-- only 0
abbrev pub is_zero_range : Range → Bool
is_zero_range b = int_eq b.low (pos 0) && int_eq b.high (pos 0)

-- one number and no other
abbrev pub is_single : Range → Bool
is_single a = int_eq a.low a.high

-- the remainder of two numbers, where it has one
abbrev pub remainder_of_singles : ℤ → ℤ → Range
remainder_of_singles n m =
    if int_eq n least && int_eq m (negsuc 0) then empty_range
    else record { low = int_rem n m; high = int_rem n m }

-- every size in a is less than every size in b without 0
abbrev pub is_smaller_of : Range → Range → Bool
is_smaller_of a b = int_lt (greatest_size_of a) (least_divisor_of b)

abbrev pub low_left_of : ℤ → ℤ → ℤ
low_left_of l m = if int_le (pos 0) l then pos 0 else int_max l (neg_ℤ m)

abbrev pub high_left_of : ℤ → ℤ → ℤ
high_left_of h m = if int_le h (pos 0) then pos 0 else int_min h m

-- by the sign of the dividend, and less than the greatest divisor
abbrev pub bounded_remainders : Range → Range → Range
bounded_remainders a b = record {
  low = low_left_of a.low (greatest_size_of b -ℤ pos 1);
  high = high_left_of a.high (greatest_size_of b -ℤ pos 1);
}

abbrev pub remainders_of : Range → Range → Range
remainders_of a b =
    if is_zero_range b then empty_range
    else (if is_single a && is_single b then remainder_of_singles a.low b.low
    else (if is_smaller_of a b then a else bounded_remainders a b))

-- divisors from `l` to `h`, all above 0 or all below it, where there are any
abbrev pub HasOneSign : ℤ → ℤ → Type 0
HasOneSign l h = l ≤ℤ h → (pos 0 <ℤ l) ⊎ (h <ℤ pos 0)

abbrev pub is_arithmetic : Op → Bool
is_arithmetic Add = true
is_arithmetic Sub = true
is_arithmetic Mul = true
is_arithmetic Div = true
is_arithmetic Rem = true
is_arithmetic op = false

abbrev pub sums_of : Range → Range → Range
sums_of a b = record { low = a.low +ℤ b.low; high = a.high +ℤ b.high }

abbrev pub differences_of : Range → Range → Range
differences_of a b = record { low = a.low -ℤ b.high; high = a.high -ℤ b.low }

abbrev pub products_of : Range → Range → Range
products_of a b = spread_of (a.low *ℤ b.low) (a.low *ℤ b.high) (a.high *ℤ b.low) (a.high *ℤ b.high)

abbrev pub all_quotients_of : Range → Range → Range
all_quotients_of a b = hull_of (quotients_of a (int_max b.low (pos 1)) b.high) (quotients_of a b.low (int_min b.high (negsuc 0)))

abbrev pub arithmetic_of : Op → Range → Range → Range
arithmetic_of Add a b = sums_of a b
arithmetic_of Sub a b = differences_of a b
arithmetic_of Mul a b = products_of a b
arithmetic_of Div a b = all_quotients_of a b
arithmetic_of Rem a b = remainders_of a b
arithmetic_of op a b = empty_range

-- `a op b` for ranges, before clipping
abbrev pub arithmetic_range : Op → Range → Range → Range
arithmetic_range op a b = if is_empty_range a || is_empty_range b then empty_range else arithmetic_of op a b

-- Each result of two numbers of the operands is in the range. The remainder of MIN by -1 is a stop, so it is left out.
abbrev pub ArithmeticHolds : Type 0
ArithmeticHolds =
    (op : Op) (a b : Range) (n m k : ℤ) → Within n a → Within m b → exact op n m ≡ Some k
    → (op ≡ Rem → n ≡ least → m ≡ negsuc 0 → ⊥) → Within k (arithmetic_range op a b)
