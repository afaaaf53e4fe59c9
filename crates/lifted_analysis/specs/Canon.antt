-- The one reduced tree of a function of vectors (after Bryant).
use Rattle.std.specs.Prelude.{◌≡◌, ℕ, zero, suc, Bool, true, false, List, [], ◌∷◌, ◌++◌, length}
use Rattle.decision_tree.specs.Plain.{Plain, leaf, leaf_of, IsReduced, TestsBelow, IsNodeOf}

module _ {A : Type 0} where
  -- t is reduced, its tests are below m, and it leads each vector of m truths to what f gives there
  pub record IsTreeOf (m : ℕ) (f : List Bool → A) (t : Plain A) : Type 0 where
    pub reduced : IsReduced t
    pub tests : TestsBelow m t
    pub leads : (v : List Bool) → length v ≡ m → leaf_of t v ≡ f v

  -- the tree of f for these truths, where so many more are to come: where none is, the leaf of f; else the node of the trees
  -- for one truth more, or one of them where both are equal
  abbrev pub IsCanonFrom : (f : List Bool → A) → ℕ → List Bool → Plain A → Type 0
  IsCanonFrom f zero w t = t ≡ leaf (f w)
  IsCanonFrom f (suc k) w t =
      (no : Plain A) × (yes : Plain A) × IsCanonFrom f k (w ++ false ∷ []) no × IsCanonFrom f k (w ++ true ∷ []) yes × IsNodeOf (length w) no yes t

  -- the tree of f over m tests
  abbrev pub IsCanon : ℕ → (List Bool → A) → Plain A → Type 0
  IsCanon m f t = IsCanonFrom f m [] t
