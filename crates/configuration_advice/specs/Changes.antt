-- How many features do not keep their given values, told by formulas over tests; and with it whether there is an alarm.
use Rattle.std.specs.Prelude.{◌≡◌, ℕ, suc, ◌≤◌, ◌<◌, ℤ, ◌≤ℤ◌, Bool, true, false, List, [], ◌∷◌, ◌++◌, if◌then◌else◌, Option, Some, None}
use Rattle.std.specs.Ordering.{int_eq}
use Rattle.linear_atoms.specs.declared.atoms.Atom.{Atom}
use Rattle.linear_atoms.specs.declared.atoms.Feature.{Feature}
use Rattle.linear_atoms.specs.Atoms.{IsWithin}
use Rattle.cpp_conditions.specs.declared.models.Model.{Model}
use Rattle.cpp_conditions.specs.Numbering.{vector_at}
use Rattle.cpp_conditions.specs.Propositions.{Proposition, true_on}
use Rattle.cpp_conditions.specs.Validity.{plain, IsValid}
use Rattle.atom_solver.specs.Solutions.{IsBefore}
use Rattle.decision_tree.specs.Plain.{Plain}
use Rattle.configuration_advice.specs.declared.comparing.Advice.{Advice}
use Rattle.configuration_advice.specs.Nearest.{differing, are_false}
use Rattle.configuration_advice.specs.Uses.{value_of}

-- the second list is the first one with more behind it
pub record Extends (before after : List Atom) : Type 0 where
  pub more : List Atom
  pub is : after ≡ before ++ more

-- over these atoms the formula says that the feature with this number has the value, wherever it has one of its range
abbrev pub SaysKept : List Atom → Feature → ℕ → ℤ → Proposition ℕ → Type 0
SaysKept atoms feature n value p = (values : List ℤ) → feature.low ≤ℤ value_of n values → value_of n values ≤ℤ feature.high → true_on (vector_at atoms values) p ≡ int_eq value (value_of n values)

-- how many of the formulas are false
abbrev pub unkept : List (Proposition ℕ) → List Bool → ℕ
unkept [] v = 0
unkept (p ∷ ps) v = if true_on v p then unkept ps v else suc (unkept ps v)

-- over the tests the formulas tell how many features do not have their given values
pub record TellsChanges (features : List Feature) (tests : List Atom) (kept : List (Proposition ℕ)) (given : List ℤ) : Type 0 where
  pub told : (values : List ℤ) → IsWithin features values → unkept kept (vector_at tests values) ≡ differing given values

-- more than any number of features
abbrev pub too_many : ℕ
too_many = 4294967295

-- how many of the formulas are false, and too many where a tree of alarms is true
abbrev pub cost_of : List (Plain Bool) → List (Proposition ℕ) → List Bool → ℕ
cost_of alarms kept v = if are_false alarms v then unkept kept v else too_many

-- the truth says whether the number is more than the first
pub record IsAbove (most n : ℕ) (truth : Bool) : Type 0 where
  pub more : truth ≡ true → most < n
  pub not_more : truth ≡ false → n ≤ most

-- of the valid configurations it has the least cost, and among those that have it, it is the first
pub record IsCheapest (model : Model) (cost : List ℤ → ℕ) (advice : Advice) : Type 0 where
  pub valid : IsValid (plain model) advice.config.values
  pub changed : cost advice.config.values ≡ advice.changed
  pub least : (others : List ℤ) → IsValid (plain model) others → advice.changed ≤ cost others
  pub first : (others : List ℤ) → IsValid (plain model) others → cost others ≡ advice.changed → IsBefore others advice.config.values → ⊥

-- the first with the least cost, if that is at most so much
abbrev pub FindsCheapest : Model → (List ℤ → ℕ) → ℕ → Option Advice → Type 0
FindsCheapest model cost most None = (values : List ℤ) → IsValid (plain model) values → most < cost values
FindsCheapest model cost most (Some advice) = IsCheapest model cost advice × (advice.changed ≤ most)
