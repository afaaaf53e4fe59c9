-- Leaves of octagons together with intervals and strides: their reduced product, linearised.
use Rattle.leaf_domain.specs.Leaves.{LeafMeaning}
use Rattle.octagon_leaf.specs.Octagons.{octagons}
use Rattle.congruence_leaf.specs.Congruences.{congruences as strides}
use Rattle.paired_leaf.specs.PairedLeaves.{paired}
use Rattle.linearised_leaf.specs.Linearised.{linearised}

-- the reduced product
abbrev pub reduced : LeafMeaning
reduced = paired octagons strides

abbrev pub sharp : LeafMeaning
sharp = linearised reduced
