-- What is hashed of a leaf.
use Rattle.std.specs.Prelude.{ℕ, List, ◌++◌}
use Rattle.leaf_domain.specs.Leaves.{LeafValue}
use Rattle.octagon_leaf.specs.Hashing as octagon
use Rattle.product_leaf.specs.Hashing as stride
use Rattle.paired_leaf.specs.Pairs.{first_of, second_of}

-- both leaves
abbrev pub fed_leaf : LeafValue → List (List ℕ)
fed_leaf v = octagon.fed_leaf (first_of v) ++ stride.fed_leaf (second_of v)
