-- What the thresholds of a program are: near its numbers, and the least of the candidates.
use Rattle.std.specs.Prelude.{◌≡◌, ◌≤◌, ℤ, pos, ◌+ℤ◌, ◌-ℤ◌, ◌<ℤ◌, true, List, [], ◌∷◌, length, All, ◌⊎◌}
use Rattle.std.specs.List.{Contains}
use Rattle.c_tree.specs.Tree.{Whole}
use Rattle.c_tree.specs.Value.{IsInt}
use Rattle.loop_thresholds.specs.Numbers.{numbers_of_program}
use Rattle.loop_thresholds.specs.Thresholds.{candidates_of, is_nearer_zero, thresholds_of}

-- one number is another, or differs from it by 1
abbrev pub IsNear : ℤ → ℤ → Type 0
IsNear t c = (t ≡ c -ℤ pos 1) ⊎ ((t ≡ c) ⊎ (t ≡ c +ℤ pos 1))

-- each threshold is near a number of the program
abbrev pub ThresholdsAreNear : Type 0
ThresholdsAreNear = (p : Whole) (t : ℤ) → Contains (thresholds_of p) t → (c : ℤ) × Contains (numbers_of_program p) c × IsNear t c

-- each number is below those behind it
abbrev pub IsRising : List ℤ → Type 0
IsRising [] = Unit {0}
IsRising (t ∷ ts) = All (λ u. t <ℤ u) ts × IsRising ts

-- what holds of the thresholds of a program
pub record AreLeast (p : Whole) (ts : List ℤ) : Type 0 where
  pub few : length ts ≤ 64
  pub rising : IsRising ts
  pub int : All IsInt ts
  -- a candidate that is no threshold is farther from zero than each threshold
  pub nearer : (c t : ℤ) → Contains (candidates_of p) c → ¬ Contains ts c → Contains ts t → is_nearer_zero t c ≡ true
  -- and then there are 64
  pub full : (c : ℤ) → Contains (candidates_of p) c → ¬ Contains ts c → length ts ≡ 64
  -- each threshold is a candidate
  pub among : (t : ℤ) → Contains ts t → Contains (candidates_of p) t

abbrev pub ThresholdsAreLeast : Type 0
ThresholdsAreLeast = (p : Whole) → AreLeast p (thresholds_of p)
