-- Features whose value changes no truth.
use Rattle.std.specs.Prelude.{◌≡◌, ◌≤◌, ℕ, zero, suc, ℤ, Bool, List, [], ◌∷◌, length, Option}
use Rattle.linear_atoms.specs.declared.atoms.Config.{Config}
use Rattle.linear_atoms.specs.declared.atoms.Feature.{Feature}
use Rattle.linear_atoms.specs.Atoms.{AreRanges, IsWithin}
use Rattle.linear_atoms.specs.Forms.{sum_at}
use Rattle.linear_atoms.specs.declared.ranges.Span.{Span}
use Rattle.atom_solver.specs.Spans.{ranges, width, FindsIn}

-- the values with another one at a place
abbrev pub put : ℕ → ℤ → List ℤ → List ℤ
put n x [] = []
put zero x (v ∷ vs) = x ∷ vs
put (suc n) x (v ∷ vs) = v ∷ put n x vs

-- the terms have the same sum whatever the value of this feature
abbrev pub IsUnread : ℕ → List (ℕ × ℤ) → Type 0
IsUnread n ts = (values : List ℤ) (x : ℤ) → sum_at ts (put n x values) ≡ sum_at ts values

-- within the ranges this is the same whatever the value of this feature
abbrev pub IsSame : List Feature → ℕ → (List ℤ → Bool) → Type 0
IsSame features n holds = (values : List ℤ) (x : ℤ) → IsWithin features values → IsWithin features (put n x values) → holds (put n x values) ≡ holds values

-- what is first in the new box is first in the old one
pub record Serves (holds : List ℤ → Bool) (old new : List Span) : Type 0 where
  pub long : length new ≡ length old
  pub some : AreRanges (ranges new)
  pub finds : (found : Option Config) → FindsIn (ranges new) holds found → FindsIn (ranges old) holds found
  pub no_wider : width new ≤ width old
