-- Trees with numbers at leaves and nodes.
use Rattle.std.specs.Prelude.{◌≡◌, ◌⊎◌, ◌↔◌, ℕ}
use Rattle.decision_tree.specs.Plain.{Plain, leaf, node}

-- a leaf with its number, or a node with its number, its test, the tree for false and that for true
pub data Numbered (L : Type 0) : Type 0 where
  kept : ℕ → L → Numbered L
  branch : ℕ → ℕ → Numbered L → Numbered L → Numbered L

module _ {L : Type 0} where
  -- the tree without its numbers
  abbrev pub erase : Numbered L → Plain L
  erase (kept n x) = leaf x
  erase (branch n test low high) = node test (erase low) (erase high)

  -- the number at the root
  abbrev pub root : Numbered L → ℕ
  root (kept n x) = n
  root (branch n test low high) = n

  -- s is a subtree of t
  abbrev pub IsWithin : Numbered L → Numbered L → Type 0
  IsWithin s (kept n x) = s ≡ kept n x
  IsWithin s (branch n test low high) = (s ≡ branch n test low high) ⊎ (IsWithin s low ⊎ IsWithin s high)

  -- any two subtrees have equal numbers exactly where they are equal, numbers apart
  pub record IsNumbered (t : Numbered L) : Type 0 where
    pub tells : (a b : Numbered L) → IsWithin a t → IsWithin b t → ((root a ≡ root b) ↔ (erase a ≡ erase b))
