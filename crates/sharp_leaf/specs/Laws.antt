-- Octagons together with intervals and strides keep every law of leaves, and equal leaves are hashed alike.
use Rattle.std.specs.Prelude.{◌≡◌, true}
use Rattle.std.proofs.Common.{ap}
use Rattle.leaf_domain.specs.Leaves.{LeafValue, LeafLaws, same_leaf}
use Rattle.leaf_domain.proofs.LeafEquality.{leaf_decides}
use Rattle.octagon_leaf.specs.Octagons.{octagons}
use Rattle.octagon_leaf.specs.Laws.{octagon_laws}
use Rattle.octagon_leaf.proofs.Exactness.{leaf-exact}
use Rattle.congruence_leaf.specs.Congruences.{congruences as strides}
use Rattle.congruence_leaf.specs.Laws.{congruence_laws as stride_laws}
use Rattle.congruence_leaf.proofs.Exactness.{congruences_exact as strides_exact}
use Rattle.paired_leaf.proofs.PairedLaws.{paired_laws}
use Rattle.linearised_leaf.proofs.LinearisedLaws.{linearised_laws}
use Rattle.sharp_leaf.specs.SharpLeaves.{reduced, sharp}
use Rattle.sharp_leaf.specs.Hashing.{fed_leaf}

pub reduced_laws : LeafLaws reduced
reduced_laws = paired_laws octagons strides octagon_laws stride_laws leaf-exact strides_exact

pub sharp_laws : LeafLaws sharp
sharp_laws = linearised_laws reduced reduced_laws

pub leaf_alike : (x y : LeafValue) → same_leaf x y ≡ true → fed_leaf x ≡ fed_leaf y
leaf_alike x y e = ap fed_leaf ((leaf_decides x y).0 e)
