-- What is hashed of a leaf.
use Rattle.std.specs.Prelude.{ℕ, List, if◌then◌else◌}
use Rattle.std.specs.Hash as fed
use Rattle.octagon_matrix.specs.Equality.{fed_matrix}
use Rattle.leaf_domain.specs.Leaves.{LeafValue, is_nothing_of}
use Rattle.octagon_leaf.specs.Octagons.{matrix_in}

-- the number of variables at Nothing, and else the matrix as it stands
abbrev pub fed_leaf : LeafValue → List (List ℕ)
fed_leaf v = if is_nothing_of v then fed.u32 v.variables else fed_matrix (matrix_in v)
