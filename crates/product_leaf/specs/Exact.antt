-- What the order and the join of intervals with strides are, for leaves with as many variables.
use Rattle.nonrelational_leaf.specs.Exact.{IsOrderedByStores, JoinIsLeast}
use Rattle.product_leaf.specs.StrideLeaves.{strides}

-- a leaf is below another exactly where each of its stores is one of the other's
abbrev pub StridesAreOrderedByStores : Type 0
StridesAreOrderedByStores = IsOrderedByStores strides

-- each leaf that is above both is above their join
abbrev pub StrideJoinIsLeast : Type 0
StrideJoinIsLeast = JoinIsLeast strides
