-- What the code asks of meets and forms: small numbers, and two different terms.
use Rattle.std.specs.Prelude.{◌≡◌, ◌≢◌, ℕ, ◌*◌, ◌<◌, ◌^◌, ℤ, pos, neg_ℤ, ◌≤ℤ◌, false, List, [], ◌∷◌, Option, Some, None, ⊤}
use Rattle.octagon_matrix.specs.Matrices.{MatrixValue, IsMatrix}
use Rattle.octagon_matrix.specs.Stores.{Holds}
use Rattle.octagon_closure.specs.Best.{IsUnmet, IsBest}
use Rattle.leaf_domain.specs.Leaves.{LeafValue, nothing_of, is_nothing_of}
use Rattle.leaf_domain.specs.Forms.{IsFormNumber}
use Rattle.leaf_domain.specs.declared.range.Range.{Range}
use Rattle.octagon_leaf.specs.declared.shape.Edge.{Edge}
use Rattle.octagon_leaf.specs.declared.meets.Meet.{Meet}
use Rattle.octagon_leaf.specs.Greatest.{leaf_of}
use Rattle.octagon_leaf.specs.Octagons.{octagon_best}

-- a number whose double and quadruple are no large ones
pub record IsSmall (n : ℤ) : Type 0 where
  pub low : neg_ℤ (pos (2 ^ 50)) ≤ℤ n
  pub high : n ≤ℤ pos (2 ^ 50)

-- two different terms of so many variables
pub record IsMeet (n : ℕ) (e : Meet) : Type 0 where
  pub first : e.first < 2 * n
  pub second : e.second < 2 * n
  pub apart : e.first ≢ e.second

abbrev pub AreMeets : ℕ → List Meet → Type 0
AreMeets n [] = ⊤
AreMeets n (e ∷ es) = IsMeet n e × AreMeets n es

abbrev pub AreSmall : List Meet → Type 0
AreSmall [] = ⊤
AreSmall (e ∷ es) = IsSmall e.bound × AreSmall es

-- the terms of a form over so many variables
pub record IsEdge (n : ℕ) (e : Edge) : Type 0 where
  pub first : e.first < 2 * n
  pub second : e.second < 2 * n
  pub apart : e.first ≢ e.second
  pub constant : IsFormNumber e.constant

pub record IsSmallRange (r : Range) : Type 0 where
  pub low : IsSmall r.low
  pub high : IsSmall r.high

-- no store meets the matrix, or the answer has its best bounds
abbrev pub IsSettled : MatrixValue → Option MatrixValue → Type 0
IsSettled d None = IsUnmet d
IsSettled d (Some m) = IsBest d m × IsMatrix m

-- the leaf of a matrix with best bounds, and Nothing where there is none
abbrev pub leaf_from : ℕ → Option MatrixValue → LeafValue
leaf_from n None = nothing_of n
leaf_from n (Some m) = leaf_of m

-- a matrix over so many variables that is best, where there is one
abbrev pub IsOwnBest : ℕ → Option MatrixValue → Type 0
IsOwnBest n None = ⊤
IsOwnBest n (Some m) = IsBest m m × IsMatrix m × (m.variables ≡ n)

-- the best matrix of a leaf that is not Nothing
pub record IsClosedOf (v : LeafValue) (m : MatrixValue) : Type 0 where
  pub some : is_nothing_of v ≡ false
  pub is : octagon_best v ≡ leaf_of m
  pub best : IsBest m m
  pub kept : IsMatrix m
  pub variables : m.variables ≡ v.variables

-- the matrix of a leaf that is not Nothing, as it stands
pub record IsStandingOf (v : LeafValue) (m : MatrixValue) : Type 0 where
  pub is : v ≡ leaf_of m
  pub kept : IsMatrix m
  pub met : (s : List ℤ) × Holds m s

-- a range whose ends are no large numbers
pub record IsKnownRange (r : Range) : Type 0 where
  pub low_least : neg_ℤ (pos (2 ^ 51)) ≤ℤ r.low
  pub low_most : r.low ≤ℤ pos (2 ^ 51)
  pub high_least : neg_ℤ (pos (2 ^ 51)) ≤ℤ r.high
  pub high_most : r.high ≤ℤ pos (2 ^ 51)
