-- What is hashed of a leaf.
use Rattle.std.specs.Prelude.{ℕ, List, ◌++◌}
use Rattle.std.specs.Hash as fed
use Rattle.leaf_domain.specs.declared.range.Range.{Range}
use Rattle.leaf_domain.specs.Leaves.{LeafValue}
use Rattle.interval_leaf.specs.Intervals.{ranges_of}

-- the number of variables, and each low and high
abbrev pub fed_range : Range → List (List ℕ)
fed_range r = fed.i64 r.low ++ fed.i64 r.high

abbrev pub fed_leaf : LeafValue → List (List ℕ)
fed_leaf v = fed.u32 v.variables ++ fed.slice fed_range (ranges_of v)
