-- The sizes of the numbers that are computed on the way.
use Rattle.std.specs.Prelude.{◌^◌, ℤ, pos, neg_ℤ, ◌≤ℤ◌}

-- the least value of a term
pub record IsTermSize (n : ℤ) : Type 0 where
  pub low : neg_ℤ (pos (2 ^ 72)) ≤ℤ n
  pub high : n ≤ℤ pos (2 ^ 72)

-- the least value of a form
pub record IsSumSize (n : ℤ) : Type 0 where
  pub low : neg_ℤ (pos (2 ^ 80)) ≤ℤ n
  pub high : n ≤ℤ pos (2 ^ 80)
