-- Numbers to which the bounds of a loop's leaf may step, and how a bound steps to the nearest of them.
use Rattle.std.specs.Prelude.{◌≤◌, ◌+◌, ℕ, ℤ, pos, neg_ℤ, ◌*ℤ◌, int_le, int_lt, Bool, ◌&&◌, ◌||◌, if◌then◌else◌, List, [], ◌∷◌, length, map, All}
use Rattle.std.specs.Int.{int_min}
use Rattle.std.specs.Ordering.{int_eq}
use Rattle.c_tree.specs.Value.{IsInt}
use Rattle.leaf_domain.specs.declared.thresholds.Multiple.{Multiple}
use Rattle.leaf_domain.specs.declared.thresholds.Multiple.TheVariants.{One, MinusOne, Two, MinusTwo}

-- at most 64 numbers of `int`
pub record AreThresholds (ts : List ℤ) : Type 0 where
  pub few : length ts ≤ 64
  pub int : All IsInt ts

-- the number times what a bound is a bound of
abbrev pub times : Multiple → ℤ → ℤ
times One t = t
times MinusOne t = neg_ℤ t
times Two t = pos 2 *ℤ t
times MinusTwo t = neg_ℤ (pos 2 *ℤ t)

-- the bounds that these thresholds are for a variable so many times
abbrev pub scaled : Multiple → List ℤ → List ℤ
scaled m ts = map (times m) ts

-- the least of the numbers that is not below the bound, and the limit where none is, or none below the limit
abbrev pub nearest : ℤ → List ℤ → ℤ → ℤ
nearest limit [] bound = limit
nearest limit (t ∷ ts) bound = if int_le bound t then int_min t (nearest limit ts bound) else nearest limit ts bound

-- the bound is the limit or one of the numbers: it may come of a step
abbrev pub is_step : ℤ → List ℤ → ℤ → Bool
is_step limit [] bound = int_eq bound limit
is_step limit (t ∷ ts) bound = int_eq bound t || is_step limit ts bound

-- how many steps the bound can still take: one to each of the numbers between it and the limit, and one to the limit
abbrev pub steps_from : ℤ → List ℤ → ℤ → ℕ
steps_from limit [] bound = if int_lt bound limit then 1 else 0
steps_from limit (t ∷ ts) bound = (if int_lt bound t && int_lt t limit then 1 else 0) + steps_from limit ts bound
