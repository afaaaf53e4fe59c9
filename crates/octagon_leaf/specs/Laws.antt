-- Octagons keep every law of leaves, and equal leaves are hashed alike.
use Rattle.std.specs.Prelude.{◌≡◌, true}
use Rattle.std.proofs.Common.{ap}
use Rattle.leaf_domain.specs.Leaves.{LeafValue, LeafLaws, same_leaf}
use Rattle.leaf_domain.proofs.LeafEquality.{leaf_decides}
use Rattle.octagon_leaf.specs.Octagons.{octagons}
use Rattle.octagon_leaf.specs.Hashing.{fed_leaf}
use Rattle.octagon_leaf.specs.Laws.OctagonLaws as proved
pub mod OverPairs
pub mod Best
pub mod Meets
pub mod Terms
pub mod Forms
pub mod Matrices
pub mod OctagonLaws

pub octagon_laws : LeafLaws octagons
octagon_laws = proved.octagon_laws

pub leaf_alike : (x y : LeafValue) → same_leaf x y ≡ true → fed_leaf x ≡ fed_leaf y
leaf_alike x y e = ap fed_leaf ((leaf_decides x y).0 e)
