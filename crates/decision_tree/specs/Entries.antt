-- The entries of a forest: the key of each tree, at the place of its number.
use Rattle.std.specs.Prelude.{◌≡◌, ℕ, ◌+◌, List, Some, slice_get, map}
use Rattle.decision_tree.specs.Plain.{Plain}
use Rattle.decision_tree.specs.declared.forest.Key.{Key}
use Rattle.decision_tree.specs.declared.forest.Key.TheVariants as key
use Rattle.decision_tree.specs.declared.tree.Tree.{Tree}
use Rattle.decision_tree.specs.Numbered.{Numbered, kept, branch, erase, root}
use Rattle.decision_tree.specs.Listed.{IsListed, IsDistinct}
use Rattle.decision_tree.specs.View.{numbered}

-- the key is that of the tree, whose number is n
abbrev pub IsEntry : {L : Type 0} → ℕ → Key L → Numbered L → Type 0
IsEntry n (key.Leaf r) t = t ≡ kept n r.value.value
IsEntry {L} n (key.Node test a b) t = (low : Numbered L) × (high : Numbered L) × (t ≡ branch n test low high) × (a ≡ root low) × (b ≡ root high)

-- the trees in order
abbrev pub trees : {L : Type 0} → List (Key L × Tree L) → List (Plain L)
trees = map (λ e. erase (numbered e.1))

-- the key and the tree at each place belong together, each subtree stands at its number, and no tree stands twice
pub record AreEntries {L : Type 0} (es : List (Key L × Tree L)) : Type 0 where
  pub keyed : (i : ℕ) (e : Key L × Tree L) → slice_get es i ≡ Some e → IsEntry (i + 1) e.0 (numbered e.1)
  pub listed : (i : ℕ) (e : Key L × Tree L) → slice_get es i ≡ Some e → IsListed (trees es) (numbered e.1)
  pub distinct : IsDistinct (trees es)
