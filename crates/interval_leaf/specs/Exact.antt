-- What the order and the join of intervals are, for leaves with as many variables.
use Rattle.nonrelational_leaf.specs.Exact.{IsOrderedByStores, JoinIsLeast}
use Rattle.interval_leaf.specs.Intervals.{intervals}

-- a leaf is below another exactly where each of its stores is one of the other's
abbrev pub IntervalsAreOrderedByStores : Type 0
IntervalsAreOrderedByStores = IsOrderedByStores intervals

-- each leaf that is above both is above their join
abbrev pub IntervalJoinIsLeast : Type 0
IntervalJoinIsLeast = JoinIsLeast intervals
