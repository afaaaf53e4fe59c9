-- What the order and the join of a kind of leaf are, where they are exact, for leaves with as many variables.
use Rattle.std.specs.Prelude.{◌≡◌, ℤ, true, List, ◌↔◌}
use Rattle.leaf_domain.specs.Leaves.{LeafValue, LeafMeaning, Alike}

-- a leaf is below another exactly where each of its stores is one of the other's
abbrev pub IsOrderedByStores : LeafMeaning → Type 0
IsOrderedByStores M = (a b : LeafValue) → Alike M a b → (M.leq a b ≡ true) ↔ ((s : List ℤ) → M.holds a s → M.holds b s)

-- each leaf that is above both is above their join
abbrev pub JoinIsLeast : LeafMeaning → Type 0
JoinIsLeast M = (a b c : LeafValue) → Alike M a c → Alike M b c → M.leq a c ≡ true → M.leq b c ≡ true → M.leq (M.join a b) c ≡ true
