-- What a call knows of pairs of subtrees of its operands.
use Rattle.std.specs.Prelude.{List}
use Rattle.std.specs.Map.{keys_of}
use Rattle.decision_tree.specs.declared.tree.Tree.{Tree}
use Rattle.decision_tree.specs.Plain.{Plain}
use Rattle.decision_tree.specs.Numbered.{Numbered}
use Rattle.tree_unify.specs.declared.memo.Pair.{Pair}
use Rattle.tree_unify.specs.Made.{IsMemo, IsPairOfLeaves, IsPairOf, IsTally}

-- the entries for leaves and those for other pairs are right, and there is one entry for each pair of leaves at most
pub record IsKnown {A B C : Type 0} (P : A → B → C → Type 0) (forest : List (Plain C)) (t : Numbered A) (u : Numbered B) (leaves nodes : List (Pair × Tree C)) : Type 0 where
  pub of_leaves : IsMemo P forest t u leaves
  pub of_nodes : IsMemo P forest t u nodes
  pub tally : IsTally (IsPairOfLeaves t u) (keys_of leaves)

-- there is one entry for each pair of subtrees at most
pub record IsWalked {A B C : Type 0} (t : Numbered A) (u : Numbered B) (nodes : List (Pair × Tree C)) : Type 0 where
  pub tally : IsTally (IsPairOf t u) (keys_of nodes)
