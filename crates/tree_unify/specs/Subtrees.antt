-- The different subtrees of a tree.
use Rattle.std.specs.Prelude.{◌≡◌, ◌⊎◌, List}
use Rattle.std.specs.List.{Contains}
use Rattle.decision_tree.specs.Plain.{Plain, leaf, node}

module _ {L : Type 0} where
  -- s is t or a subtree of it
  abbrev pub HasSubtree : Plain L → Plain L → Type 0
  HasSubtree s (leaf x) = s ≡ leaf x
  HasSubtree s (node test low high) = (s ≡ node test low high) ⊎ (HasSubtree s low ⊎ HasSubtree s high)

  -- the list has each subtree of t: a shortest such list has as many elements as t has different subtrees
  pub record HoldsSubtrees (xs : List (Plain L)) (t : Plain L) : Type 0 where
    pub each : (s : Plain L) → HasSubtree s t → Contains xs s
