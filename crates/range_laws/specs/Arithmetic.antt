-- How exact the arithmetic of ranges is, before clipping.
use Rattle.std.specs.Prelude.{◌≡◌, ◌≢◌, ◌⊎◌, Some, ℤ, negsuc}
use Rattle.c_tree.specs.declared.tree.Op.{Op}
use Rattle.c_tree.specs.declared.tree.Op.TheVariants.{Add, Sub, Rem}
use Rattle.c_tree.specs.Value.{least}
use Rattle.leaf_domain.specs.declared.range.Range.{Range}
use Rattle.leaf_domain.specs.Ranges.{Within, exact, arithmetic_range}
use Rattle.range_laws.specs.Ends.{EndsAre, IsLeastWith}

-- the number is the result of numbers of the operands; the remainder of the least `int` by -1 is a stop, and no result
pub record IsResult (op : Op) (a b : Range) (k : ℤ) : Type 0 where
  pub left : ℤ
  pub right : ℤ
  pub left_within : Within left a
  pub right_within : Within right b
  pub told : exact op left right ≡ Some k
  pub goes_on : op ≡ Rem → left ≡ least → right ≡ negsuc 0 → ⊥

-- each end of a range of sums, differences, products or quotients is a result
abbrev pub EndsAreResults : Type 0
EndsAreResults = (op : Op) (a b : Range) → op ≢ Rem → EndsAre (IsResult op a b) (arithmetic_range op a b)

-- so each range that has all results has that range
abbrev pub ArithmeticIsLeast : Type 0
ArithmeticIsLeast = (op : Op) (a b : Range) → op ≢ Rem → IsLeastWith (IsResult op a b) (arithmetic_range op a b)

-- each number of a range of sums or differences is a result
abbrev pub SumsAreExact : Type 0
SumsAreExact = (op : Op) (a b : Range) (k : ℤ) → (op ≡ Add) ⊎ (op ≡ Sub) → Within k (arithmetic_range op a b) → IsResult op a b k
