-- The greatest common divisor of coefficients.
use Rattle.std.specs.Prelude.{ℕ, zero, suc, ◌%◌, nat_eq, ℤ, unsigned_abs, Bool, true, ◌&&◌, if◌then◌else◌, List, [], ◌∷◌}

abbrev pub divides_all : ℕ → List (ℕ × ℤ) → Bool
divides_all d [] = true
divides_all d (t ∷ ts) = nat_eq (unsigned_abs t.1 % d) 0 && divides_all d ts

-- the greatest number up to a limit that divides each coefficient
abbrev pub greatest_to : ℕ → List (ℕ × ℤ) → ℕ
greatest_to zero ts = 0
greatest_to (suc n) ts = if divides_all (suc n) ts then suc n else greatest_to n ts

unfoldable pub common_divisor : List (ℕ × ℤ) → ℕ
common_divisor [] = 0
common_divisor (t ∷ ts) = greatest_to (unsigned_abs t.1) (t ∷ ts)
