-- A leaf that is answered for a leaf, and one that is answered for that; and what holds a store.
use Rattle.std.proofs.Common.{◌≡◌, ℕ, ℤ, false, List, Option, Some, None, refl, ◌∙◌}
use Rattle.leaf_domain.specs.Leaves.{LeafValue, LeafMeaning, IsLeafLike, nothing_of, is_nothing_of}

pub answers_self : {M : LeafMeaning} (v : LeafValue) → M.valid v → IsLeafLike M v v
answers_self v h = record { valid = h; same = refl }

pub answers_then : {M : LeafMeaning} (u v w : LeafValue) → IsLeafLike M u v → IsLeafLike M v w → IsLeafLike M u w
answers_then u v w h k = record { valid = k.valid; same = k.same ∙ h.same }

-- a leaf that holds a store is not Nothing, and a range that has a number is not empty
pub some_held : (M : LeafMeaning) → ((n : ℕ) (s : List ℤ) → M.holds (nothing_of n) s → ⊥) → (v : LeafValue) (s : List ℤ) → M.holds v s → is_nothing_of v ≡ false
some_held M none v s h = by_content v.variables v.content h
  where
    by_content : (n : ℕ) (c : Option (List ℤ)) → M.holds (record { variables = n; content = c }) s → is_nothing_of (record { variables = n; content = c }) ≡ false
    by_content n None k = absurd (none n s k)
    by_content n (Some ns) k = refl
