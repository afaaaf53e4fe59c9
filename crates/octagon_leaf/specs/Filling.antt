-- Entries of matrices that the code makes.
use Rattle.std.specs.Prelude.{◌≡◌, ℕ, ◌*◌, ◌%◌, ◌<◌, ℤ, pos, neg_ℤ, ◌+ℤ◌, ◌≤ℤ◌, nat_eq, ◌||◌, if◌then◌else◌}
use Rattle.leaf_domain.specs.declared.range.Range.{Range}
use Rattle.octagon_matrix.specs.Terms.{opposite, type_bound}
use Rattle.octagon_matrix.specs.Matrices.{MatrixValue, entry_of}
use Rattle.octagon_closure.specs.Sweeps.{half}
use Rattle.octagon_leaf.specs.Octagons.{has_variable, least_entry}

-- the entries of a matrix of so many variables: zero on the diagonal, coherent, and not above the type's bounds
pub record IsFull (n : ℕ) (f : ℕ → ℕ → ℤ) : Type 0 where
  pub diagonal : (a : ℕ) → a < 2 * n → f a a ≡ type_bound a a
  pub coherent : (a b : ℕ) → a < 2 * n → b < 2 * n → f (opposite b) (opposite a) ≡ f a b
  pub most : (a b : ℕ) → a < 2 * n → b < 2 * n → f a b ≤ℤ type_bound a b

-- no entry is below the least that a matrix keeps
abbrev pub AreLarge : ℕ → (ℕ → ℕ → ℤ) → Type 0
AreLarge n f = (a b : ℕ) → a < 2 * n → b < 2 * n → least_entry ≤ℤ f a b

-- the greatest value of a term where x is any number of a range
abbrev pub greatest_set : MatrixValue → ℕ → Range → ℕ → ℤ
greatest_set m x r a = if has_variable x a then (if nat_eq (a % 2) 0 then r.high else neg_ℤ r.low) else half (entry_of m a (opposite a))

-- the entries where x is any number of a range
abbrev pub set_entry : MatrixValue → ℕ → Range → ℕ → ℕ → ℤ
set_entry m x r a b =
    if nat_eq a b then pos 0
    else (if has_variable x a || has_variable x b then greatest_set m x r a +ℤ greatest_set m x r (opposite b) else entry_of m a b)
