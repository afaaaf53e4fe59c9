-- The nearest valid configuration without alarms.
use Rattle.std.specs.Prelude.{◌≡◌, ℕ, suc, ◌≤◌, ℤ, Bool, true, false, not, ◌&&◌, List, [], ◌∷◌, if◌then◌else◌, Option, Some, None}
use Rattle.std.specs.Ordering.{int_eq}
use Rattle.linear_atoms.specs.declared.atoms.Atom.{Atom}
use Rattle.cpp_conditions.specs.declared.models.Model.{Model}
use Rattle.cpp_conditions.specs.Numbering.{vector_at}
use Rattle.cpp_conditions.specs.Validity.{plain, IsValid}
use Rattle.atom_solver.specs.Solutions.{IsBefore}
use Rattle.decision_tree.specs.Plain.{Plain, leaf_of}
use Rattle.configuration_advice.specs.declared.comparing.Advice.{Advice}

-- how many features differ
abbrev pub differing : List ℤ → List ℤ → ℕ
differing [] ws = 0
differing (v ∷ vs) [] = 0
differing (v ∷ vs) (w ∷ ws) = if int_eq v w then differing vs ws else suc (differing vs ws)

-- each tree is false at the vector
abbrev pub are_false : List (Plain Bool) → List Bool → Bool
are_false [] vector = true
are_false (t ∷ ts) vector = not (leaf_of t vector) && are_false ts vector

-- no tree of alarms is true at the configuration
abbrev pub is_quiet : List Atom → List (Plain Bool) → List ℤ → Bool
is_quiet atoms alarms values = are_false alarms (vector_at atoms values)

-- of the valid configurations without alarms it differs from the given one in the fewest features, and among those that do so
-- it is the first
pub record IsNearest (model : Model) (atoms : List Atom) (alarms : List (Plain Bool)) (given : List ℤ) (advice : Advice) : Type 0 where
  pub valid : IsValid (plain model) advice.config.values
  pub quiet : is_quiet atoms alarms advice.config.values ≡ true
  pub changed : advice.changed ≡ differing given advice.config.values
  pub fewest : (others : List ℤ) → IsValid (plain model) others → is_quiet atoms alarms others ≡ true → advice.changed ≤ differing given others
  pub first : (others : List ℤ) → IsValid (plain model) others → is_quiet atoms alarms others ≡ true → differing given others ≡ advice.changed → IsBefore others advice.config.values → ⊥

-- the nearest one, or none where there is none
abbrev pub Advises : Model → List Atom → List (Plain Bool) → List ℤ → Option Advice → Type 0
Advises model atoms alarms given None = (values : List ℤ) → IsValid (plain model) values → is_quiet atoms alarms values ≡ false
Advises model atoms alarms given (Some advice) = IsNearest model atoms alarms given advice
