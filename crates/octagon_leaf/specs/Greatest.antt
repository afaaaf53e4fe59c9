-- The best bounds of a matrix: the greatest differences of its terms over all stores within `int` that meet it.
use Rattle.std.specs.Prelude.{ℕ, zero, suc, ◌*◌, ◌^◌, ℤ, pos, ◌+ℤ◌, ◌-ℤ◌, int_le, Bool, ◌&&◌, nat_eq, List, [], ◌∷◌, ◌++◌, map, length, Some}
use Rattle.std.specs.Int.{int_max}
use Rattle.std.specs.List.{filter}
use Rattle.octagon_matrix.specs.Terms.{int_least}
use Rattle.octagon_matrix.specs.Matrices.{MatrixValue, entry_of}
use Rattle.octagon_matrix.specs.Stores.{term_value}
use Rattle.octagon_matrix.specs.View.{table}
use Rattle.leaf_domain.specs.Leaves.{LeafValue, nothing_of}
use Rattle.octagon_leaf.specs.Pairs.{all_pairs}

-- ---- matrices and leaves
-- the matrix of these entries
abbrev pub matrix_of : ℕ → (ℕ → ℕ → ℤ) → MatrixValue
matrix_of n f = record { variables = n; entries = table (2 * n) f }

-- the leaf of a matrix as it stands
abbrev pub leaf_of : MatrixValue → LeafValue
leaf_of m = record { variables = m.variables; content = Some m.entries }

-- ---- stores
-- so many whole numbers upward
unfoldable pub numbers_from : ℕ → ℤ → List ℤ
numbers_from zero l = []
numbers_from (suc k) l = l ∷ numbers_from k (l +ℤ pos 1)

-- the numbers of `int`
unfoldable pub int_numbers : List ℤ
int_numbers = numbers_from (2 ^ 32) int_least

-- each number before each list
unfoldable pub put_before : List ℤ → List (List ℤ) → List (List ℤ)
put_before [] ss = []
put_before (v ∷ vs) ss = map (λ s. v ∷ s) ss ++ put_before vs ss

-- all stores of so many variables
unfoldable pub stores_of : ℕ → List (List ℤ)
stores_of zero = [] ∷ []
stores_of (suc n) = put_before int_numbers (stores_of n)

-- the value of the first term minus that of the second
abbrev pub difference : List ℤ → ℕ → ℕ → ℤ
difference s a b = term_value s a -ℤ term_value s b

-- whether a store meets a matrix
unfoldable pub meets : MatrixValue → List ℤ → Bool
meets m s = nat_eq (length s) m.variables && all_pairs (2 * m.variables) (λ a b. int_le (difference s a b) (entry_of m a b))

-- the stores that meet a matrix
unfoldable pub met_stores : MatrixValue → List (List ℤ)
met_stores m = filter (meets m) (stores_of m.variables)

-- ---- best bounds
-- the greatest difference of two terms over a store and further ones
unfoldable pub greatest_difference : ℕ → ℕ → List ℤ → List (List ℤ) → ℤ
greatest_difference a b s [] = difference s a b
greatest_difference a b s (t ∷ ts) = int_max (difference s a b) (greatest_difference a b t ts)

-- the greatest differences over stores; Nothing where there is none
abbrev pub best_over : ℕ → List (List ℤ) → LeafValue
best_over n [] = nothing_of n
best_over n (s ∷ ss) = leaf_of (matrix_of n (λ a b. greatest_difference a b s ss))

-- the best bounds of a matrix; Nothing where no store meets it
abbrev pub best_of : MatrixValue → LeafValue
best_of m = best_over m.variables (met_stores m)

abbrev pub standing_over : MatrixValue → List (List ℤ) → LeafValue
standing_over m [] = nothing_of m.variables
standing_over m (s ∷ ss) = leaf_of m

-- the matrix as it stands; Nothing where no store meets it
abbrev pub standing : MatrixValue → LeafValue
standing m = standing_over m (met_stores m)
