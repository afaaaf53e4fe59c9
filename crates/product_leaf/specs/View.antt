-- A leaf as plain data.
use Rattle.std.specs.Prelude.{◌≡◌, ℕ, ◌≤◌, ℤ, List, Option, Some, None, length, map, ⊤, Vec}
use Rattle.std.specs.Global.{Global}
use Rattle.leaf_domain.specs.Leaves.{LeafValue}
use Rattle.strides.specs.declared.strided.Strided.{Strided}
use Rattle.strides.specs.Strided.{reduced}
use Rattle.product_leaf.specs.StrideLeaves.{numbers_of, leaf_of, AllOwn}
use Rattle.product_leaf.specs.declared.leaf.StrideLeaf.TheInside.{Inside}

-- the parts as they stand, where they are kept, and else the best ones
abbrev pub content_of : Option (Vec Strided Global) → Option (Vec Strided Global) → Option (List ℤ)
content_of None w = None
content_of (Some b) None = Some (numbers_of b.items)
content_of (Some b) (Some w) = Some (numbers_of w.items)

abbrev pub view_of : Inside → LeafValue
view_of s = record { variables = s.variables; content = content_of s.best s.standing }

-- the best parts of so many, beside the parts as they stand
abbrev pub AreBestParts : ℕ → List Strided → List Strided → Type 0
AreBestParts n own best = (n ≡ length own) × AllOwn own × (best ≡ map reduced own)

abbrev pub AreParts : ℕ → Option (Vec Strided Global) → Option (Vec Strided Global) → Type 0
AreParts n None w = ⊤
AreParts n (Some b) None = AreBestParts n b.items b.items
AreParts n (Some b) (Some w) = AreBestParts n w.items b.items

abbrev pub IsSound : Inside → Type 0
IsSound s = (s.variables ≤ 48) × AreParts s.variables s.best s.standing

-- the parts of a leaf as they stand
pub record IsOwnOf (v : LeafValue) (bs : List Strided) : Type 0 where
  pub same : v ≡ leaf_of bs
  pub own : AllOwn bs

-- the parts of a leaf by their best bounds
pub record IsBestOf (v : LeafValue) (bs : List Strided) : Type 0 where
  pub parts : List Strided
  pub same : v ≡ leaf_of parts
  pub own : AllOwn parts
  pub best : bs ≡ map reduced parts
