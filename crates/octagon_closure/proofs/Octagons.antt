-- Octagons as functions of two terms: the inequalities of a closed matrix, and the values that meet one.
use Rattle.std.proofs.Common.{◌≡◌, ◌⊎◌, ℕ, ◌+◌, ◌*◌, ◌/◌, ◌<◌, ℤ, pos, ◌+ℤ◌, neg_ℤ, ◌-ℤ◌, ◌≤ℤ◌, Bool, true}
use Rattle.std.specs.Int.{int_min}
use Rattle.octagon_matrix.specs.Terms.{opposite}
use Rattle.octagon_matrix.specs.Matrices.{MatrixValue, entry_of, IsMatrix}
use Rattle.octagon_closure.specs.Sweeps.{greatest_of, lowered}

-- a matrix with zero diagonal and coherence
pub record IsCoherent (n : ℕ) (m : ℕ → ℕ → ℤ) : Type 0 where
  pub zero_diagonal : (a : ℕ) → a < 2 * n → m a a ≡ pos 0
  pub coherent : (a b : ℕ) → a < 2 * n → b < 2 * n → m (opposite b) (opposite a) ≡ m a b

-- Miné's closed matrices: zero diagonal, coherence and every triangle inequality
pub record IsClosed (n : ℕ) (m : ℕ → ℕ → ℤ) : Type 0 where
  pub zero_diagonal : (a : ℕ) → a < 2 * n → m a a ≡ pos 0
  pub coherent : (a b : ℕ) → a < 2 * n → b < 2 * n → m (opposite b) (opposite a) ≡ m a b
  pub triangle : (a b c : ℕ) → a < 2 * n → b < 2 * n → c < 2 * n → m a c ≤ℤ (m a b +ℤ m b c)

-- the tightly closed matrices of Bagnara, Hill and Zaffanella:
-- besides even entries (a, -a), and no entry above half of (a, -a) plus (-b, b)
pub record IsTight (n : ℕ) (m : ℕ → ℕ → ℤ) : Type 0 where
  pub closed : IsClosed n m
  pub even : (a : ℕ) → a < 2 * n → m a (opposite a) ≡ greatest_of m a +ℤ greatest_of m a
  pub strong : (a b : ℕ) → a < 2 * n → b < 2 * n → m a b ≤ℤ (greatest_of m a +ℤ greatest_of m (opposite b))

-- the rounding and the halving in one
abbrev pub tight_entry : (ℕ → ℕ → ℤ) → ℕ → ℕ → ℤ
tight_entry m a b = int_min (m a b) (greatest_of m a +ℤ greatest_of m (opposite b))

-- the triangle inequalities by way of the terms of a set
pub record IsClosedBy (n : ℕ) (m : ℕ → ℕ → ℤ) (s : ℕ → Bool) : Type 0 where
  pub by : (a b c : ℕ) → a < 2 * n → b < 2 * n → s b ≡ true → c < 2 * n → m a c ≤ℤ (m a b +ℤ m b c)

-- the set of all terms
abbrev pub all : ℕ → Bool
all b = true

-- values of the terms, of which opposite ones have opposite values
pub record IsOdd (v : ℕ → ℤ) : Type 0 where
  pub odd : (a : ℕ) → v (opposite a) ≡ neg_ℤ (v a)

-- values that meet the whole matrix
pub record Meets (n : ℕ) (m : ℕ → ℕ → ℤ) (v : ℕ → ℤ) : Type 0 where
  pub odd : IsOdd v
  pub meets : (a b : ℕ) → a < 2 * n → b < 2 * n → (v a -ℤ v b) ≤ℤ m a b

-- the values meet the entries between the terms of a set
pub record MeetsOn (n : ℕ) (m : ℕ → ℕ → ℤ) (s : ℕ → Bool) (v : ℕ → ℤ) : Type 0 where
  pub odd : IsOdd v
  pub meets : (a b : ℕ) → a < 2 * n → b < 2 * n → s a ≡ true → s b ≡ true → (v a -ℤ v b) ≤ℤ m a b

-- the set holds the opposite of each term that it holds
pub record IsPaired (s : ℕ → Bool) : Type 0 where
  pub paired : (a : ℕ) → s (opposite a) ≡ s a

-- ---- on the way
-- the matrix has the same values and is closed by way of the terms of a set
pub record IsPassed (m : MatrixValue) (now : MatrixValue) (s : ℕ → Bool) : Type 0 where
  pub kept : IsMatrix now
  pub variables : now.variables ≡ m.variables
  pub closed : IsClosedBy m.variables (entry_of now) s
  pub forth : (v : ℕ → ℤ) → Meets m.variables (entry_of m) v → Meets m.variables (entry_of now) v
  pub back : (v : ℕ → ℤ) → Meets m.variables (entry_of now) v → Meets m.variables (entry_of m) v

-- the kept entries before (i, j) are lowered, and each other is as it was or lowered
pub record IsLowering (n : ℕ) (m : ℕ → ℕ → ℤ) (f g : ℕ → ℤ) (now : MatrixValue) (i j : ℕ) : Type 0 where
  pub kept : IsMatrix now
  pub variables : now.variables ≡ n
  pub done : (a b : ℕ) → a < 2 * n → b < 2 * n → b < 2 * (a / 2) + 2 → (a < i) ⊎ ((a ≡ i) × (b < j)) → entry_of now a b ≡ lowered m f g a b
  pub either : (a b : ℕ) → a < 2 * n → b < 2 * n → (entry_of now a b ≡ m a b) ⊎ (entry_of now a b ≡ lowered m f g a b)
