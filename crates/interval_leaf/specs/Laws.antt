-- Intervals keep every law of leaves, and equal leaves are hashed alike. What the laws rest on stands in the folder Laws, since
-- an `impl` may cite nothing of its own crate but `specs`.
use Rattle.std.specs.Prelude.{◌≡◌, true}
use Rattle.std.proofs.Common.{ap}
use Rattle.leaf_domain.specs.Leaves.{LeafValue, LeafLaws, same_leaf}
use Rattle.leaf_domain.proofs.LeafEquality.{leaf_decides}
use Rattle.interval_leaf.specs.Intervals.{ranges, intervals}
use Rattle.interval_leaf.specs.Hashing.{fed_leaf}
use Rattle.interval_leaf.specs.Laws.RangeLists.{range_laws}
use Rattle.nonrelational_leaf.proofs.LiftedLaws.{lifted_laws}
pub mod RangeLists

pub interval_laws : LeafLaws intervals
interval_laws = lifted_laws ranges range_laws

pub leaf_alike : (x y : LeafValue) → same_leaf x y ≡ true → fed_leaf x ≡ fed_leaf y
leaf_alike x y e = ap fed_leaf ((leaf_decides x y).0 e)
