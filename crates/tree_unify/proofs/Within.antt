-- Subtrees of subtrees.
use Rattle.std.proofs.Common.{◌≡◌, ℕ, ◌≤◌, refl, sym, ap, subst, inl, inr, arith}
use Rattle.decision_tree.specs.Plain.{HasLeaf}
use Rattle.tree_unify.specs.Sides.{node_count}
use Rattle.tree_unify.specs.Subtrees.{HasSubtree}
use Rattle.decision_tree.specs.Numbered.{Numbered, kept, branch, erase, root, IsWithin, IsNumbered}

module _ {L : Type 0} where
  same_count : (s t : Numbered L) → s ≡ t → node_count (erase s) ≤ node_count (erase t)
  same_count s t e = subst (λ r. node_count (erase s) ≤ node_count (erase r)) e (omega arith)

  pub within_both : (s t whole : Numbered L) → IsWithin s t → IsWithin t whole → IsWithin s whole
  within_both s t (kept n x) w v = subst (IsWithin s) v w
  within_both s t (branch n k low high) w (inl e) = subst (IsWithin s) e w
  within_both s t (branch n k low high) w (inr (inl v)) = inr (inl (within_both s t low w v))
  within_both s t (branch n k low high) w (inr (inr v)) = inr (inr (within_both s t high w v))

  pub within_self : (t : Numbered L) → IsWithin t t
  within_self (kept n x) = refl
  within_self (branch n k low high) = inl refl

  pub within_low : (t whole : Numbered L) (n k : ℕ) (low high : Numbered L) → t ≡ branch n k low high → IsWithin t whole → IsWithin low whole
  within_low t whole n k low high e w = within_both low (branch n k low high) whole (inr (inl (within_self low))) (subst (λ s. IsWithin s whole) e w)

  pub within_high : (t whole : Numbered L) (n k : ℕ) (low high : Numbered L) → t ≡ branch n k low high → IsWithin t whole → IsWithin high whole
  within_high t whole n k low high e w = within_both high (branch n k low high) whole (inr (inr (within_self high))) (subst (λ s. IsWithin s whole) e w)

  -- a leaf of a subtree is a leaf of the tree
  pub leaf_within : (whole : Numbered L) (n : ℕ) (x : L) → IsWithin (kept n x) whole → HasLeaf x (erase whole)
  leaf_within (kept m y) n x w = cc
  leaf_within (branch m k low high) n x (inl e) = cc
  leaf_within (branch m k low high) n x (inr (inl w)) = inl (leaf_within low n x w)
  leaf_within (branch m k low high) n x (inr (inr w)) = inr (leaf_within high n x w)

  -- a subtree with its numbers is one without them
  pub subtree_within : (whole s : Numbered L) → IsWithin s whole → HasSubtree (erase s) (erase whole)
  subtree_within (kept m y) s w = ap erase w
  subtree_within (branch m k low high) s (inl e) = inl (ap erase e)
  subtree_within (branch m k low high) s (inr (inl w)) = inr (inl (subtree_within low s w))
  subtree_within (branch m k low high) s (inr (inr w)) = inr (inr (subtree_within high s w))

  -- a subtree has no more nodes
  pub count_within : (whole s : Numbered L) → IsWithin s whole → node_count (erase s) ≤ node_count (erase whole)
  count_within (kept m y) s w = same_count s (kept m y) w
  count_within (branch m k low high) s (inl e) = same_count s (branch m k low high) e
  count_within (branch m k low high) s (inr (inl w)) = omega (arith, count_within low s w)
  count_within (branch m k low high) s (inr (inr w)) = omega (arith, count_within high s w)

  -- a leaf by itself is numbered
  pub numbered_leaf : (t : Numbered L) (n : ℕ) (x : L) → t ≡ kept n x → IsNumbered t
  numbered_leaf t n x e = subst IsNumbered (sym e) (record { tells = λ a b v w. (λ p. same erase a b v w, λ p. same root a b v w) })
    where
      same : {X : Type 0} (f : Numbered L → X) (a b : Numbered L) → a ≡ kept n x → b ≡ kept n x → f a ≡ f b
      same f a b v w = cc
