-- What is hashed of a leaf.
use Rattle.std.specs.Prelude.{ℕ, List, ◌++◌}
use Rattle.std.specs.Hash as fed
use Rattle.strides.specs.declared.stride.Stride.{Stride}
use Rattle.strides.specs.declared.strided.Strided.{Strided}
use Rattle.leaf_domain.specs.Leaves.{LeafValue}
use Rattle.product_leaf.specs.StrideLeaves.{parts_of}

abbrev pub fed_stride : Stride → List (List ℕ)
fed_stride s = fed.u64 s.modulus ++ fed.i64 s.residue

abbrev pub fed_part : Strided → List (List ℕ)
fed_part b = fed.i64 b.low ++ fed.i64 b.high ++ fed_stride b.stride

-- the number of variables, and each low, high, modulus and residue
abbrev pub fed_leaf : LeafValue → List (List ℕ)
fed_leaf v = fed.u32 v.variables ++ fed.slice fed_part (parts_of v)
