-- A leaf with one range per variable.
use Rattle.std.specs.Prelude.{◌≡◌, ℕ, ℤ, ◌≤ℤ◌, int_le, Bool, ◌&&◌, List, [], ◌∷◌, Option, Some, None}
use Rattle.std.specs.List.{AllByRecursion}
use Rattle.c_tree.specs.Value.{least, greatest}
use Rattle.leaf_domain.specs.declared.range.Range.{Range}
use Rattle.leaf_domain.specs.Ranges.{Within, is_empty_range, empty_range, range_at, cover_of, meet_of}
use Rattle.leaf_domain.specs.Ends.{widened_range, narrowed_range, ends_left}
use Rattle.leaf_domain.specs.Leaves.{LeafValue, LeafMeaning}
use Rattle.nonrelational_leaf.specs.Parts.{PartMeaning}
use Rattle.nonrelational_leaf.specs.Lifted as lifted

-- a low and a high for each variable, as one list of numbers
abbrev pub numbers_of : List Range → List ℤ
numbers_of [] = []
numbers_of (r ∷ rs) = r.low ∷ r.high ∷ numbers_of rs

abbrev pub pairs_of : List ℤ → List Range
pairs_of [] = []
pairs_of (l ∷ []) = []
pairs_of (l ∷ h ∷ ns) = range_at l h ∷ pairs_of ns

-- a range that a leaf has
pub record IsOwn (r : Range) : Type 0 where
  pub low : least ≤ℤ r.low
  pub order : r.low ≤ℤ r.high
  pub high : r.high ≤ℤ greatest

-- where it is not empty, a leaf can have it
abbrev pub HasEnds : Range → Type 0
HasEnds r = (least ≤ℤ r.low) × (r.high ≤ℤ greatest)

abbrev pub AllEnds : List Range → Type 0
AllEnds rs = AllByRecursion HasEnds rs

abbrev pub point_of : ℤ → Range
point_of n = range_at n n

-- a lies in b
abbrev pub lies_in : Range → Range → Bool
lies_in a b = int_le b.low a.low && int_le a.high b.high

-- what a range leaves of a variable's own
abbrev pub met_range : Range → Range → Range
met_range own r = meet_of own r

-- ranges as the parts of a leaf: the bounds of a range that is not empty are best
abbrev pub ranges : PartMeaning Range
ranges = record {
  own = IsOwn;
  has = λ r n. Within n r;
  numbers = numbers_of;
  parts = pairs_of;
  point = point_of;
  bare = empty_range;
  is_bare = is_empty_range;
  reduction = None;
  leq = lies_in;
  join = cover_of;
  widen = widened_range;
  narrow = narrowed_range;
  bound_count = 2;
  steps_left = ends_left;
  range = λ r. r;
  meet_range = met_range;
  of_range = λ r. r;
  of_form = λ rs f r. r;
}

abbrev pub intervals : LeafMeaning
intervals = lifted.lifted ranges

-- ---- what the code and its proofs speak of
-- the leaf of these ranges
abbrev pub interval_of : List Range → LeafValue
interval_of rs = lifted.leaf_of ranges rs

-- the ranges of a leaf that is not Nothing
abbrev pub ranges_of : LeafValue → List Range
ranges_of v = lifted.parts_of ranges v

abbrev pub AllOwn : List Range → Type 0
AllOwn rs = lifted.AllOwn ranges rs

abbrev pub IsIntervalContent : ℕ → Option (List ℤ) → Type 0
IsIntervalContent n c = lifted.IsContent ranges n c

abbrev pub IsInterval : LeafValue → Type 0
IsInterval v = lifted.IsLeaf ranges v

abbrev pub covers : List Range → List Range → List Range
covers us bs = lifted.joined_all ranges us bs

abbrev pub all_lie_in : List Range → List Range → Bool
all_lie_in us bs = lifted.all_leq ranges us bs

abbrev pub widened_all : List ℤ → List Range → List Range → List Range
widened_all ts xs gs = lifted.widened_all ranges ts xs gs

abbrev pub narrowed_all : List ℤ → List Range → List Range → List Range
narrowed_all ts xs gs = lifted.narrowed_all ranges ts xs gs

-- the leaf of these ranges, where none is empty
abbrev pub settled : List Range → LeafValue
settled rs = lifted.settled ranges rs

abbrev pub interval_leq : LeafValue → LeafValue → Bool
interval_leq a b = lifted.leaf_leq ranges a b

abbrev pub interval_join : LeafValue → LeafValue → LeafValue
interval_join a b = lifted.joined_leaf ranges a b

abbrev pub interval_widen : List ℤ → LeafValue → LeafValue → LeafValue
interval_widen ts x g = lifted.widened_leaf ranges ts x g

abbrev pub interval_narrow : List ℤ → LeafValue → LeafValue → LeafValue
interval_narrow ts x g = lifted.narrowed_leaf ranges ts x g

abbrev pub interval_bounds : LeafValue → ℕ → Range
interval_bounds v x = lifted.bounds_at ranges v x

-- the leaf with this range for x; Nothing where the range is empty
abbrev pub interval_with : LeafValue → ℕ → Range → LeafValue
interval_with v x r = lifted.leaf_with ranges v x r
