-- Stores, one whole number for each variable, and those that meet a matrix.
use Rattle.std.specs.Prelude.{◌≡◌, ℕ, ◌*◌, ◌/◌, ◌%◌, ◌<◌, ℤ, pos, neg_ℤ, ◌-ℤ◌, ◌≤ℤ◌, nat_eq, if◌then◌else◌, List, length, slice_index_or}
use Rattle.octagon_matrix.specs.Terms.{int_least, int_greatest}
use Rattle.octagon_matrix.specs.Matrices.{MatrixValue, entry_of}

-- the value of a variable, and that of a term
abbrev pub value_at : List ℤ → ℕ → ℤ
value_at s x = slice_index_or s x (pos 0)

abbrev pub term_value : List ℤ → ℕ → ℤ
term_value s a = if nat_eq (a % 2) 0 then value_at s (a / 2) else neg_ℤ (value_at s (a / 2))

-- a value within `int` for each variable
pub record IsStore (n : ℕ) (s : List ℤ) : Type 0 where
  pub size : length s ≡ n
  pub least : (x : ℕ) → x < n → int_least ≤ℤ value_at s x
  pub most : (x : ℕ) → x < n → value_at s x ≤ℤ int_greatest

-- the store meets the matrix: of each entry, the first term minus the second is at most the entry
pub record Holds (m : MatrixValue) (s : List ℤ) : Type 0 where
  pub size : length s ≡ m.variables
  pub bounds : (a b : ℕ) → a < 2 * m.variables → b < 2 * m.variables → (term_value s a -ℤ term_value s b) ≤ℤ entry_of m a b
