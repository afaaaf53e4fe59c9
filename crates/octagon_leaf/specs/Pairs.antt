-- Tests and sums over all pairs of terms.
use Rattle.std.specs.Prelude.{ℕ, zero, suc, ◌+◌, Bool, true, ◌&&◌}

-- whether a test is true of each number below a bound
unfoldable pub all_below : ℕ → (ℕ → Bool) → Bool
all_below zero p = true
all_below (suc k) p = all_below k p && p k

-- the sum of a function over the numbers below a bound
unfoldable pub sum_below : ℕ → (ℕ → ℕ) → ℕ
sum_below zero f = 0
sum_below (suc k) f = sum_below k f + f k

-- whether a test is true of each pair of numbers below a bound
abbrev pub all_pairs : ℕ → (ℕ → ℕ → Bool) → Bool
all_pairs n p = all_below n (λ a. all_below n (λ b. p a b))

-- the sum of a function over the pairs of numbers below a bound
abbrev pub sum_pairs : ℕ → (ℕ → ℕ → ℕ) → ℕ
sum_pairs n f = sum_below n (λ a. sum_below n (λ b. f a b))
