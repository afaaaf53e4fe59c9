-- Two leaves with as many variables refine each other: the ranges of the one are met with the other.
use Rattle.std.specs.Prelude.{ℕ, zero, suc, int_lt, Bool, ◌||◌, if◌then◌else◌}
use Rattle.leaf_domain.specs.declared.range.Range.{Range}
use Rattle.leaf_domain.specs.Leaves.{LeafValue, LeafMeaning, nothing_of, is_nothing_of}
use Rattle.paired_leaf.specs.Pairs.{pair_of}

-- whether a range ends before another
abbrev pub is_tighter : Range → Range → Bool
is_tighter r b = int_lt b.low r.low || int_lt r.high b.high

-- the leaf with the range of a variable met, where it is tighter than the leaf's own
abbrev pub limited_at : LeafMeaning → LeafValue → ℕ → Range → LeafValue
limited_at M v x r = if is_tighter r (M.bounds_of v x) then M.meet_range v x r else v

-- the leaf with the ranges that another leaf has for the first variables
unfoldable pub limited_below : LeafMeaning → LeafMeaning → LeafValue → LeafValue → ℕ → LeafValue
limited_below M N v w zero = v
limited_below M N v w (suc k) = limited_at M (limited_below M N v w k) k (N.bounds_of w k)

-- the leaf with the ranges that another leaf has
abbrev pub limited : LeafMeaning → LeafMeaning → LeafValue → LeafValue → LeafValue
limited M N v w = limited_below M N v w v.variables

-- the ranges of the first are met with the second, those of the second with the first, and again those of the first with the second
unfoldable pub refined_first : LeafMeaning → LeafMeaning → LeafValue → LeafValue → LeafValue
refined_first A B a b = limited A B a (limited B A b a)

unfoldable pub refined_second : LeafMeaning → LeafMeaning → LeafValue → LeafValue → LeafValue
refined_second A B a b = limited B A (limited B A b a) (refined_first A B a b)

-- the pair of two leaves that refine each other
unfoldable pub exchanged : LeafMeaning → LeafMeaning → LeafValue → LeafValue → LeafValue
exchanged A B a b =
    if is_nothing_of a || is_nothing_of b then nothing_of a.variables else pair_of (refined_first A B a b) (refined_second A B a b)
