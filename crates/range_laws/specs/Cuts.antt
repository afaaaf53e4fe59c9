-- How exact a cut by a comparison is.
use Rattle.std.specs.Prelude.{◌≡◌, ℤ, true}
use Rattle.leaf_domain.specs.declared.range.Range.{Range}
use Rattle.leaf_domain.specs.declared.compare.Compare.{Compare}
use Rattle.leaf_domain.specs.declared.compare.Compare.TheVariants.{Ne}
use Rattle.leaf_domain.specs.Ranges.{Within}
use Rattle.leaf_domain.specs.Compares.{holds_between, cut_of}
use Rattle.range_laws.specs.Ends.{EndsAre, IsLeastWith}

-- a number of `a` for which the comparison holds with a number of `b`
pub record IsMet (op : Compare) (a b : Range) (n : ℤ) : Type 0 where
  pub own : Within n a
  pub other : ℤ
  pub other_within : Within other b
  pub holds : holds_between op n other ≡ true

-- each number that remains is one, but that of which `b` consists, for `!=`
abbrev pub CutIsExact : Type 0
CutIsExact = (op : Compare) (a b : Range) (n : ℤ) → (op ≡ Ne → b.low ≡ n → b.high ≡ n → ⊥) → Within n (cut_of op a b) → IsMet op a b n

-- each end is one
abbrev pub EndsAreMet : Type 0
EndsAreMet = (op : Compare) (a b : Range) → EndsAre (IsMet op a b) (cut_of op a b)

-- so each range that has all of them has what remains
abbrev pub CutIsLeast : Type 0
CutIsLeast = (op : Compare) (a b : Range) → IsLeastWith (IsMet op a b) (cut_of op a b)
