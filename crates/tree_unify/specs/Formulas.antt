-- The tree of a formula.
use Rattle.std.specs.Prelude.{◌≡◌, ◌⊎◌, ℕ, ◌+◌, Bool, List}
use Rattle.decision_tree.specs.Plain.{Plain, leaf_of, HasTest, IsReduced}
use Rattle.cpp_conditions.specs.Propositions.{Proposition, Const, Test, Not, And, Or, true_on}

-- the formula has this number
abbrev pub HasNumber : ℕ → Proposition ℕ → Type 0
HasNumber k (Const b) = ⊥
HasNumber k (Test n) = k ≡ n
HasNumber k (Not p) = HasNumber k p
HasNumber k (And p q) = HasNumber k p ⊎ HasNumber k q
HasNumber k (Or p q) = HasNumber k p ⊎ HasNumber k q

-- the reduced tree that leads each vector to the formula's truth there; its tests are numbers of the formula
pub record IsTreeOf (p : Proposition ℕ) (t : Plain Bool) : Type 0 where
  pub truth : (v : List Bool) → leaf_of t v ≡ true_on v p
  pub reduced : IsReduced t
  pub tests : (k : ℕ) → HasTest k t → HasNumber k p

-- how many operators the formula has
abbrev pub operators : Proposition ℕ → ℕ
operators (Const b) = 0
operators (Test n) = 0
operators (Not p) = operators p + 1
operators (And p q) = operators p + operators q + 1
operators (Or p q) = operators p + operators q + 1
