-- What one sweep over the kept entries makes of a matrix, seen as a function of two terms.
use Rattle.std.specs.Prelude.{◌≡◌, ℕ, ◌*◌, ◌<◌, ◌^◌, ℤ, pos, neg_ℤ, ◌+ℤ◌, ◌≤ℤ◌, ◌<ℤ◌, List, slice_index_or}
use Rattle.std.specs.Int.{int_min, int_div_euclid}
use Rattle.octagon_matrix.specs.Terms.{opposite}

-- half of a number, rounded down
unfoldable pub half : ℤ → ℤ
half x = int_div_euclid x (pos 2)

-- ---- rows: a bound for each term
unfoldable pub bound_at : List ℤ → ℕ → ℤ
bound_at row c = slice_index_or row c (pos 0)

-- the bounds are those of a function, and not large
pub record IsRow (n : ℕ) (row : List ℤ) (f : ℕ → ℤ) : Type 0 where
  pub values : (c : ℕ) → c < 2 * n → bound_at row c ≡ f c
  pub least : (c : ℕ) → c < 2 * n → neg_ℤ (pos (2 ^ 40)) ≤ℤ f c
  pub most : (c : ℕ) → c < 2 * n → f c ≤ℤ pos (2 ^ 40)

-- a number that adds to an entry without reaching the ends of a row's bounds
pub record IsSmall (x : ℤ) : Type 0 where
  pub least : neg_ℤ (pos (2 ^ 37)) ≤ℤ x
  pub most : x ≤ℤ pos (2 ^ 37)

-- the walks to each term that begin with x and the entry from p, or with y and the entry from q
abbrev pub row_from : (ℕ → ℕ → ℤ) → ℕ → ℤ → ℕ → ℤ → ℕ → ℤ
row_from m p x q y c = int_min (x +ℤ m p c) (y +ℤ m q c)

-- half of the bound of the double of each opposite term, rounded down: the greatest value of that term
abbrev pub greatest_of : (ℕ → ℕ → ℤ) → ℕ → ℤ
greatest_of m a = half (m a (opposite a))

abbrev pub halves : (ℕ → ℕ → ℤ) → ℕ → ℤ
halves m c = greatest_of m (opposite c)

-- ---- sweeps
-- the lesser of the sums of two rows for an entry and for its coherent twin
abbrev pub sums : (ℕ → ℤ) → (ℕ → ℤ) → ℕ → ℕ → ℤ
sums f g a b = int_min (f (opposite a) +ℤ g b) (f b +ℤ g (opposite a))

abbrev pub lowered : (ℕ → ℕ → ℤ) → (ℕ → ℤ) → (ℕ → ℤ) → ℕ → ℕ → ℤ
lowered m f g a b = int_min (m a b) (sums f g a b)

-- each entry lowered to the walks through the entry (a, b), its twin (-b, -a), or both
abbrev pub through : (ℕ → ℕ → ℤ) → ℕ → ℕ → ℕ → ℕ → ℤ
through m a b = lowered m (row_from m (opposite a) (pos 0) b (m (opposite a) a +ℤ m a b)) (row_from m b (m a b) (opposite a) ((m b (opposite b) +ℤ m a b) +ℤ m a b))

-- each entry (a, -a) rounded down to an even number, and then each (a, b) lowered to half of (a, -a) plus (-b, b)
abbrev pub tightened : (ℕ → ℕ → ℤ) → ℕ → ℕ → ℤ
tightened m = lowered m (halves m) (halves m)

-- two entries that no store meets, since together they are below 0
pub record HasNegative (n : ℕ) (d : ℕ → ℕ → ℤ) : Type 0 where
  pub first : ℕ
  pub second : ℕ
  pub first_below : first < 2 * n
  pub second_below : second < 2 * n
  pub negative : (d first second +ℤ d second first) <ℤ pos 0
