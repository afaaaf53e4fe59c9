-- The different leaves of a tree.
use Rattle.std.specs.Prelude.{List}
use Rattle.std.specs.List.{Contains}
use Rattle.decision_tree.specs.Plain.{Plain, HasLeaf}

-- the list has each leaf of t: a shortest such list has as many elements as t has different leaves
pub record HoldsLeaves {L : Type 0} (xs : List L) (t : Plain L) : Type 0 where
  pub each : (x : L) → HasLeaf x t → Contains xs x
