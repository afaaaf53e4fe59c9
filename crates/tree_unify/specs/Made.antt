-- What is known of trees that are made and remembered during one call.
use Rattle.std.specs.Prelude.{◌≡◌, ℕ, Bool, List, Some, None, slice_get, ◌==◌, ◌&&◌}
use Rattle.std.specs.Map.{lookup}
use Rattle.indexmap.specs.IndexMap.{insert_entry}
use Rattle.decision_tree.specs.declared.tree.Tree.{Tree}
use Rattle.decision_tree.specs.Plain.{Plain, IsReducedFrom}
use Rattle.decision_tree.specs.Numbered.{Numbered, kept, erase, root, IsWithin}
use Rattle.decision_tree.specs.Listed.{IsOf}
use Rattle.decision_tree.specs.View.{numbered}
use Rattle.tree_unify.specs.declared.memo.Pair.{Pair}
use Rattle.tree_unify.specs.Leafwise.{IsUnified, TestsAreOfEither}

-- the pairs have the same two numbers
abbrev pub same_pair : Pair → Pair → Bool
same_pair p q = p.left == q.left && p.right == q.right

-- r is a tree of the forest that is made of t and u leaf by leaf
pub record IsMade {A B C : Type 0} (P : A → B → C → Type 0) (forest : List (Plain C)) (t : Plain A) (u : Plain B) (r : Numbered C) : Type 0 where
  pub unified : IsUnified P t u (erase r)
  pub reduced : (m : ℕ) → IsReducedFrom m t → IsReducedFrom m u → IsReducedFrom m (erase r)
  pub tests : TestsAreOfEither t u (erase r)
  pub own : IsOf forest r

-- each entry is made of all subtrees of t and u that have its numbers
pub record IsMemo {A B C : Type 0} (P : A → B → C → Type 0) (forest : List (Plain C)) (t : Numbered A) (u : Numbered B) (entries : List (Pair × Tree C)) : Type 0 where
  pub each : (i : ℕ) (e : Pair × Tree C) → slice_get entries i ≡ Some e → (a : Numbered A) (b : Numbered B) → IsWithin a t → IsWithin b u → e.0.left ≡ root a → e.0.right ≡ root b → IsMade P forest (erase a) (erase b) (numbered e.1)

-- the pair has the numbers of a leaf of t and a leaf of u
pub record IsPairOfLeaves {A B : Type 0} (t : Numbered A) (u : Numbered B) (p : Pair) : Type 0 where
  pub first : A
  pub second : B
  pub left : IsWithin (kept p.left first) t
  pub right : IsWithin (kept p.right second) u

-- the pair has the numbers of a subtree of t and a subtree of u
pub record IsPairOf {A B : Type 0} (t : Numbered A) (u : Numbered B) (p : Pair) : Type 0 where
  pub first : Numbered A
  pub second : Numbered B
  pub first_within : IsWithin first t
  pub second_within : IsWithin second u
  pub left : p.left ≡ root first
  pub right : p.right ≡ root second

-- each pair is such a one, and no pair stands twice
pub record IsTally (Q : Pair → Type 0) (pairs : List Pair) : Type 0 where
  pub each : (i : ℕ) (p : Pair) → slice_get pairs i ≡ Some p → Q p
  pub distinct : (i j : ℕ) (p q : Pair) → slice_get pairs i ≡ Some p → slice_get pairs j ≡ Some q → p.left ≡ q.left → p.right ≡ q.right → i ≡ j

-- no pairs were noted but those of subtrees of t and u
pub record IsNotedWithin {A B C : Type 0} (t : Numbered A) (u : Numbered B) (before after : List (Pair × Tree C)) : Type 0 where
  pub others : (p : Pair) → (IsPairOf t u p → ⊥) → lookup (same_pair p) before ≡ None → lookup (same_pair p) after ≡ None

-- r was noted for the pair
pub record IsNoted {C : Type 0} (p : Pair) (r : Numbered C) (before after : List (Pair × Tree C)) : Type 0 where
  pub tree : Tree C
  pub same : numbered tree ≡ r
  pub entries : after ≡ insert_entry same_pair before p tree
