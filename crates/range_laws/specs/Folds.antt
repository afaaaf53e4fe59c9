-- How exact a folded range is.
use Rattle.std.specs.Prelude.{◌≡◌, ℤ}
use Rattle.c_tree.specs.Value.{wrapped}
use Rattle.leaf_domain.specs.declared.range.Range.{Range}
use Rattle.leaf_domain.specs.Ranges.{Within, IsInInt, fold_of, shifted_by, turns}
use Rattle.range_laws.specs.Ends.{EndsAre, IsLeastWith}

-- the number is a wrapped number of the range
pub record IsWrapped (a : Range) (k : ℤ) : Type 0 where
  pub number : ℤ
  pub number_within : Within number a
  pub wraps : wrapped number ≡ k

-- each end is one
abbrev pub FoldEndsAreWrapped : Type 0
FoldEndsAreWrapped = (a : Range) → EndsAre (IsWrapped a) (fold_of a)

-- so each range that has all of them has the folded range
abbrev pub FoldIsLeast : Type 0
FoldIsLeast = (a : Range) → IsLeastWith (IsWrapped a) (fold_of a)

-- where a multiple of 2^32 brings the range within `int`, each number of the folded range is one
abbrev pub FoldIsExact : Type 0
FoldIsExact = (a : Range) (t k : ℤ) → IsInInt (shifted_by (turns t) a) → Within k (fold_of a) → IsWrapped a k
