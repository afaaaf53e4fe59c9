-- The trees of a forest, which contracts see as the list of its leaves and nodes: number i stands at place i - 1.
use Rattle.std.specs.Prelude.{◌≡◌, ℕ, ◌+◌, List, ◌++◌, Some, slice_get}
use Rattle.decision_tree.specs.Plain.{Plain, leaf, node, IsReducedFrom, TestsBelow}
use Rattle.decision_tree.specs.Numbered.{Numbered, kept, branch, erase, IsNumbered}

module _ {L : Type 0} where
  -- t stands in the list at place n, counted from 1
  pub record StandsAt (ts : List (Plain L)) (n : ℕ) (t : Plain L) : Type 0 where
    pub place : ℕ
    pub counted : n ≡ place + 1
    pub there : slice_get ts place ≡ Some t

  -- each subtree stands in the list at its number
  abbrev pub IsListed : List (Plain L) → Numbered L → Type 0
  IsListed ts (kept n x) = StandsAt ts n (leaf x)
  IsListed ts (branch n test low high) = StandsAt ts n (node test (erase low) (erase high)) × IsListed ts low × IsListed ts high

  -- no tree stands twice
  abbrev pub IsDistinct : List (Plain L) → Type 0
  IsDistinct ts = (i j : ℕ) (t : Plain L) → slice_get ts i ≡ Some t → slice_get ts j ≡ Some t → i ≡ j

  -- t is a tree of the forest
  pub record IsOf (forest : List (Plain L)) (t : Numbered L) : Type 0 where
    pub listed : IsListed forest t
    pub distinct : IsDistinct forest

  -- t is reduced, all its tests are from first on and below bound, and it is numbered
  pub record IsNumberedTree (first bound : ℕ) (t : Numbered L) : Type 0 where
    pub reduced : IsReducedFrom first (erase t)
    pub small : TestsBelow bound (erase t)
    pub numbered : IsNumbered t

  -- t is a tree of the forest, it is reduced, and all its tests are from first on and below bound
  pub record IsTreeIn (first bound : ℕ) (forest : List (Plain L)) (t : Numbered L) : Type 0 where
    pub reduced : IsReducedFrom first (erase t)
    pub small : TestsBelow bound (erase t)
    pub own : IsOf forest t

  -- the later forest has all that the earlier one had, in its place, and each tree of the earlier one is a tree of it
  pub record Keeps (earlier later : List (Plain L)) : Type 0 where
    pub more : List (Plain L)
    pub begins : later ≡ earlier ++ more
    pub stay : (t : Numbered L) → IsOf earlier t → IsOf later t
