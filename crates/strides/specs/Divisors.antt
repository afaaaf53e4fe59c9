-- Divisors of whole numbers.
use Rattle.std.specs.Prelude.{◌≡◌, ℕ, zero, suc, ◌%◌, nat_eq, ℤ, pos, ◌*ℤ◌, Bool, if◌then◌else◌}

-- Euclid's algorithm, by at most so many steps
abbrev pub euclid : ℕ → ℕ → ℕ → ℕ
euclid zero a b = a
euclid (suc n) a b = if nat_eq b 0 then a else euclid n b (a % b)

-- the greatest common divisor, which is 0 where both numbers are; no more steps are needed than the second number
unfoldable pub gcd : ℕ → ℕ → ℕ
gcd a b = euclid b a b

-- whether n divides k; 0 divides 0 alone
unfoldable pub divides : ℕ → ℕ → Bool
divides n k = if nat_eq n 0 then nat_eq k 0 else nat_eq (k % n) 0

-- a whole multiple of m
pub record IsMultiple (m : ℕ) (z : ℤ) : Type 0 where
  pub times : ℤ
  pub value : z ≡ times *ℤ pos m
