-- A leaf as plain data.
use Rattle.std.specs.Prelude.{◌≡◌, ℕ, ◌≤◌, ℤ, List, Option, Some, None, ⊤}
use Rattle.octagon_matrix.specs.Matrices.{MatrixValue, IsMatrix}
use Rattle.octagon_closure.specs.Best.{IsBest}
use Rattle.leaf_domain.specs.Leaves.{LeafValue}
use Rattle.octagon_leaf.specs.declared.leaf.OctagonLeaf.TheInside.{Inside}

-- the entries as widened, where they are kept, and else the best ones
abbrev pub content_of : Option MatrixValue → Option MatrixValue → Option (List ℤ)
content_of None w = None
content_of (Some c) None = Some c.entries
content_of (Some c) (Some w) = Some w.entries

abbrev pub view_of : Inside → LeafValue
view_of s = record { variables = s.variables; content = content_of s.closed s.widened }

-- a matrix of so many variables with best bounds of another
pub record IsClosedCopy (n : ℕ) (m c : MatrixValue) : Type 0 where
  pub few : n ≤ 48
  pub own_variables : m.variables ≡ n
  pub variables : c.variables ≡ n
  pub own_kept : IsMatrix m
  pub kept : IsMatrix c
  pub best : IsBest m c

abbrev pub AreMatrices : ℕ → Option MatrixValue → Option MatrixValue → Type 0
AreMatrices n None w = ⊤
AreMatrices n (Some c) None = IsClosedCopy n c c
AreMatrices n (Some c) (Some w) = IsClosedCopy n w c

abbrev pub IsSound : Inside → Type 0
IsSound s = (s.variables ≤ 48) × AreMatrices s.variables s.closed s.widened
