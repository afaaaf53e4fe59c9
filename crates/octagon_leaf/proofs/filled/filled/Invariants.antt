use Rattle.std.proofs.Common.{◌≡◌, ◌≢◌, ◌<◌, ◌*◌, ℕ, ℤ}
use Rattle.octagon_matrix.specs.Matrices.{IsMatrix}
use Rattle.octagon_leaf.specs.Filling.{IsFull}
use Rattle.octagon_leaf.proofs.Filling.{IsFilling}
use Rattle.octagon_leaf.proofs.filled.filled.Given as goal

abbrev pub invariant-loop-a : goal.invariant-loop-a
invariant-loop-a g l =
    IsMatrix l.matrix × (l.matrix.variables ≡ l.variables)
    × ((f : ℕ → ℕ → ℤ) → IsFull l.variables f
    → ((a b : ℕ) (r : ℤ) → a < 2 * l.variables → b < 2 * l.variables → a ≢ b → goal.F-post g l.entry a b r → r ≡ f a b)
    → IsFilling l.variables f l.matrix l.a 0)

abbrev pub invariant-loop-b : goal.invariant-loop-b
invariant-loop-b g l =
    IsMatrix l.matrix × (l.matrix.variables ≡ l.variables)
    × ((f : ℕ → ℕ → ℤ) → IsFull l.variables f
    → ((a b : ℕ) (r : ℤ) → a < 2 * l.variables → b < 2 * l.variables → a ≢ b → goal.F-post g l.entry a b r → r ≡ f a b)
    → IsFilling l.variables f l.matrix l.a l.b)
