-- A leaf as plain data.
use Rattle.leaf_domain.specs.Leaves.{LeafValue}
use Rattle.octagon_leaf.specs.Octagons.{octagons}
use Rattle.congruence_leaf.specs.Congruences.{congruences as strides}
use Rattle.paired_leaf.specs.Pairs.{pair_of, AreParts}
use Rattle.sharp_leaf.specs.declared.reduced.ReducedLeaf.TheInside.{Inside}

abbrev pub view_of : Inside → LeafValue
view_of s = pair_of s.octagon s.strides

abbrev pub IsSound : Inside → Type 0
IsSound s = AreParts octagons strides s.octagon s.strides
