-- The least configuration at which a tree is false, found step by step.
use Rattle.std.specs.Prelude.{◌≡◌, ℕ, ℤ, Bool, true, false, not, ◌&&◌, ◌⊎◌, List, Option, Some, None}
use Rattle.linear_atoms.specs.declared.atoms.Atom.{Atom}
use Rattle.linear_atoms.specs.declared.atoms.Config.{Config}
use Rattle.cpp_conditions.specs.declared.models.Model.{Model}
use Rattle.cpp_conditions.specs.Numbering.{vector_at}
use Rattle.cpp_conditions.specs.Propositions.{Proposition, Test, Not, And, true_on}
use Rattle.cpp_conditions.specs.Validity.{plain, IsValid}
use Rattle.decision_tree.specs.Plain.{Plain, leaf_of}
use Rattle.atom_solver.specs.Solutions.{IsBefore}

-- the formula is true at the configuration, and the tree is false
abbrev pub is_met : List Atom → Proposition ℕ → Plain Bool → List ℤ → Bool
is_met atoms wanted tree values = true_on (vector_at atoms values) wanted && not (leaf_of tree (vector_at atoms values))

-- the test has this truth
abbrev pub literal : ℕ → Bool → Proposition ℕ
literal test true = Test test
literal test false = Not (Test test)

abbrev pub with_test : Proposition ℕ → ℕ → Bool → Proposition ℕ
with_test wanted test truth = And (literal test truth) wanted

-- valid, and this holds at it
pub record IsCandidate (model : Model) (holds : List ℤ → Bool) (values : List ℤ) : Type 0 where
  pub valid : IsValid (plain model) values
  pub met : holds values ≡ true

abbrev pub MayBeCandidate : Model → (List ℤ → Bool) → Option Config → Type 0
MayBeCandidate model holds None = Unit {0}
MayBeCandidate model holds (Some config) = IsCandidate model holds config.values

-- there is a configuration that the values are not before
abbrev pub IsBehind : List ℤ → Option Config → Type 0
IsBehind values None = ⊥
IsBehind values (Some config) = IsBefore values config.values → ⊥

-- what was found is the best one so far or a candidate; what is behind the best one is behind it, and so is each candidate
pub record Improves (model : Model) (holds : List ℤ → Bool) (best found : Option Config) : Type 0 where
  pub one : (found ≡ best) ⊎ MayBeCandidate model holds found
  pub kept : (values : List ℤ) → IsBehind values best → IsBehind values found
  pub least : (values : List ℤ) → IsCandidate model holds values → IsBehind values found
