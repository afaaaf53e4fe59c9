-- The sign of the second variable in a difference or a sum of two.
use Rattle.std.specs.Prelude.{◌≡◌, ◌⊎◌, ℤ, pos, negsuc}

-- the coefficient of the second variable of a difference or a sum
abbrev pub IsSign : ℤ → Type 0
IsSign k = (k ≡ negsuc 0) ⊎ (k ≡ pos 1)
