-- Best bounds, by stores, and what the closure of a matrix is.
use Rattle.std.specs.Prelude.{◌≡◌, ◌≢◌, ◌↔◌, ℕ, ◌*◌, ◌<◌, ℤ, ◌-ℤ◌, ◌≤ℤ◌, List}
use Rattle.octagon_matrix.specs.Matrices.{MatrixValue, entry_of, IsMatrix, HasEntries, met_entry}
use Rattle.octagon_matrix.specs.Stores.{term_value, Holds}
use Rattle.octagon_closure.specs.declared.Closed.{Closed}
use Rattle.octagon_closure.specs.declared.Closed.TheVariants.{Closed as AllBest, Empty}

-- no store meets the matrix
abbrev pub IsUnmet : MatrixValue → Type 0
IsUnmet m = (s : List ℤ) → Holds m s → ⊥

-- a store that meets the matrix with the given difference
pub record Reaches (m : MatrixValue) (a b : ℕ) (d : ℤ) : Type 0 where
  pub store : List ℤ
  pub holds : Holds m store
  pub reached : term_value store a -ℤ term_value store b ≡ d

-- some store meets the matrix, and each entry of the best one is the greatest difference over all that do
pub record IsBest (m best : MatrixValue) : Type 0 where
  pub variables : best.variables ≡ m.variables
  pub most : (s : List ℤ) (a b : ℕ) → Holds m s → a < 2 * m.variables → b < 2 * m.variables → (term_value s a -ℤ term_value s b) ≤ℤ entry_of best a b
  pub reached : (a b : ℕ) → a < 2 * m.variables → b < 2 * m.variables → Reaches m a b (entry_of best a b)
  pub met : (s : List ℤ) × Holds m s

-- the matrix came from one with all bounds best by meeting the entry (a, b) with some bound
pub record CameByOne (m : MatrixValue) (a b : ℕ) : Type 0 where
  pub origin : MatrixValue
  pub before : MatrixValue
  pub best : IsBest origin before
  pub apart : a ≢ b
  pub bound : ℤ
  pub entries : HasEntries m before.variables (met_entry before a b bound)

-- what the closure of a matrix answers and leaves
pub record IsClosure (m : MatrixValue) (answer : Closed) (next : MatrixValue) : Type 0 where
  pub empty : (answer ≡ Empty) ↔ IsUnmet m
  pub best : answer ≡ AllBest → IsBest m next
  pub kept : IsMatrix next
