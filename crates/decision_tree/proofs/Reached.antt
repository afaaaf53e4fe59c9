-- Each leaf of a reduced tree is reached by some vector.
use Rattle.std.proofs.Common.{◌≡◌, ◌⊎◌, ℕ, ◌+◌, Bool, true, false, cond, map, List, length, slice_index_or, refl, sym, ◌∙◌, inl, inr}
use Rattle.std.specs.List.{range_with_len}
use Rattle.std.proofs.lemmas.List.FromFn.{length-map-range_with_len}
use Rattle.decision_tree.specs.Plain.{Plain, leaf, node, leaf_of, TestsBelow, IsReducedFrom, IsReduced, HasLeaf}
use Rattle.decision_tree.proofs.Assigned.{put, value_at, side_at, leaf_of-assigned}

module _ {L : Type 0} where
  -- some assignment leads to the leaf
  met : (t : Plain L) (m : ℕ) (x : L) → IsReducedFrom m t → HasLeaf x t → (f : ℕ → Bool) × (x ≡ value_at t f)
  met (leaf y) m x r h = ((λ _. false), h)
  met (node k low high) m x r (inl h) =
      let w = met low (k + 1) x r.2 h in (put w.0 k false, w.1 ∙ sym (side_at k low high w.0 false r.2 r.3))
  met (node k low high) m x r (inr h) =
      let w = met high (k + 1) x r.3 h in (put w.0 k true, w.1 ∙ sym (side_at k low high w.0 true r.2 r.3))

  pub reached : (m : ℕ) (t : Plain L) (x : L) → IsReduced t → TestsBelow m t → HasLeaf x t → (v : List Bool) × (length v ≡ m) × (leaf_of t v ≡ x)
  reached m t x r b h =
      let w = met t 0 x r h in (map w.0 (range_with_len 0 m), length-map-range_with_len w.0 0 m, leaf_of-assigned t m w.0 b ∙ sym w.1)

  pub has_leaf_of : (t : Plain L) (v : List Bool) → HasLeaf (leaf_of t v) t
  has_leaf_of (leaf x) v = refl
  has_leaf_of (node k low high) v =
      elim (slice_index_or v k false) as (λ b. HasLeaf (cond b (leaf_of high v) (leaf_of low v)) low ⊎ HasLeaf (cond b (leaf_of high v) (leaf_of low v)) high) [
        | true ↦ inr (has_leaf_of high v)
        | false ↦ inl (has_leaf_of low v)
      ]
