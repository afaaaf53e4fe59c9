-- How exact ranges of results are once they are clipped.
use Rattle.std.specs.Prelude.{◌≡◌, ◌⊎◌, ℤ, pos, negsuc, false}
use Rattle.c_tree.specs.declared.tree.Op.{Op}
use Rattle.c_tree.specs.declared.tree.Op.TheVariants.{Add, Sub, Mul, Div}
use Rattle.c_tree.specs.Value.{least, greatest}
use Rattle.leaf_domain.specs.declared.range.Range.{Range}
use Rattle.leaf_domain.specs.Ranges.{Within, IsInInt, range_at, is_empty_range, whole_int, clip_of, arithmetic_range}
use Rattle.range_laws.specs.Arithmetic.{IsResult}

-- each number of a clipped range of sums or differences is a result
abbrev pub ClippedSumsAreExact : Type 0
ClippedSumsAreExact = (op : Op) (a b : Range) (k : ℤ) → (op ≡ Add) ⊎ (op ≡ Sub) → Within k (clip_of (arithmetic_range op a b)) → IsResult op a b k

-- no quotient of these is that of the least `int` by -1, which is not within `int`
abbrev pub QuotientsFit : Range → Range → Type 0
QuotientsFit a b = Within least a → Within (negsuc 0) b → ⊥

-- the low of a clipped range of quotients is a quotient, and the high where all quotients fit
pub record AreClippedQuotients (a b r : Range) : Type 0 where
  pub low : IsResult Div a b r.low
  pub high : QuotientsFit a b → IsResult Div a b r.high

abbrev pub ClippedQuotientsAreResults : Type 0
ClippedQuotientsAreResults = (a b : Range) → IsInInt a → is_empty_range (clip_of (arithmetic_range Div a b)) ≡ false
    → AreClippedQuotients a b (clip_of (arithmetic_range Div a b))

-- Else the high need be none: the least `int` by -2 and by -1 is 1073741824 and 2147483648, of which only the first is within
-- `int`, so that the range is clipped to 1073741824 to the greatest `int`.
pub record HighIsNoQuotient : Type 0 where
  pub clipped : clip_of (arithmetic_range Div (range_at least least) (range_at (negsuc 1) (negsuc 0))) ≡ range_at (pos 1073741824) greatest
  pub high : IsResult Div (range_at least least) (range_at (negsuc 1) (negsuc 0)) greatest → ⊥

-- Neither end of a clipped range of products need be one: the range of 3 times any `int` is clipped to all of `int`, and neither
-- the least nor the greatest is 3 times a number.
pub record EndsAreNoProducts : Type 0 where
  pub clipped : clip_of (arithmetic_range Mul (range_at (pos 3) (pos 3)) whole_int) ≡ whole_int
  pub low : IsResult Mul (range_at (pos 3) (pos 3)) whole_int least → ⊥
  pub high : IsResult Mul (range_at (pos 3) (pos 3)) whole_int greatest → ⊥
