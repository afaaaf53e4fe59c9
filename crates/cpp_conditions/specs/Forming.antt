-- What the functions that make forms and conditions answer.
use Rattle.std.specs.Prelude.{◌≡◌, ⊤, ℕ, ◌≤◌, ℤ, unsigned_abs, Bool, true, false, List, [], ◌∷◌, length, Result, Ok, Err}
use Rattle.linear_atoms.specs.declared.atoms.Atom.{Atom}
use Rattle.linear_atoms.specs.declared.atoms.Feature.{Feature}
use Rattle.linear_atoms.specs.declared.forms.Linear.{Linear}
use Rattle.linear_atoms.specs.declared.linear_fault.LinearFault.{LinearFault}
use Rattle.linear_atoms.specs.declared.linear_fault.LinearFault.TheVariants as faults
use Rattle.linear_atoms.specs.Atoms.{AreBelow}
use Rattle.linear_atoms.specs.Forms.{IsRising, form_sum, form_by, are_small, is_small_form}
use Rattle.cpp_conditions.specs.declared.conditions.Condition.{Condition}
use Rattle.cpp_conditions.specs.declared.operators.Operator.{Operator}
use Rattle.cpp_conditions.specs.declared.operators.Operator.TheVariants.{Times, Plus}
use Rattle.cpp_conditions.specs.Expressions.{Expression}
use Rattle.cpp_conditions.specs.Meaning.{is_truth, is_linear, difference}
use Rattle.cpp_conditions.specs.Propositions.{Proposition, IsFit, IsOpen}
use Rattle.cpp_conditions.specs.View.{proposition}

-- a number, in which no truth value is used as one and no product has a feature on both sides
pub record IsNumber (features : List Feature) (e : Expression) : Type 0 where
  pub number : is_truth e ≡ false
  pub linear : is_linear features e ≡ true

-- a form over the features, with rising terms
pub record IsOver (features : List Feature) (a : Linear) : Type 0 where
  pub rising : IsRising a.terms
  pub below : AreBelow (length features) a.terms

-- and with no number too large
pub record IsSmallOver (features : List Feature) (a : Linear) : Type 0 where
  pub rising : IsRising a.terms
  pub below : AreBelow (length features) a.terms
  pub small : is_small_form a ≡ true

-- a form whose terms are not too large, with a constant between two of forms
pub record IsWide (features : List Feature) (a : Linear) : Type 0 where
  pub rising : IsRising a.terms
  pub below : AreBelow (length features) a.terms
  pub small : are_small a.terms ≡ true
  pub wide : unsigned_abs a.constant ≤ 4294967296

-- the form, where what it is made of is small
abbrev pub Forms : List Feature → Result Linear LinearFault → Linear → Bool → Type 0
Forms features (Ok made) a small = (made ≡ a) × (small ≡ true) × IsSmallOver features made
Forms features (Err faults.NoMemory) a small = ⊤
Forms features (Err faults.TooLarge) a small = small ≡ false

-- the form, where its terms are small
abbrev pub Widens : List Feature → Result Linear LinearFault → Linear → Type 0
Widens features (Ok made) a = (made ≡ a) × IsWide features made
Widens features (Err faults.NoMemory) a = ⊤
Widens features (Err faults.TooLarge) a = are_small a.terms ≡ false

-- of a product the side that has terms is multiplied by the constant of the other
abbrev pub product_by : List (ℕ × ℤ) → Linear → Linear → Linear
product_by [] a b = form_by a.constant b
product_by (t ∷ ts) a b = form_by b.constant a

abbrev pub combined : Operator → Linear → Linear → Linear
combined Times a b = product_by a.terms a b
combined Plus a b = form_sum a b
combined _ a b = difference a b

-- a condition over the features, whose ranges decide none of its atoms
pub record IsOverFeatures (features : List Feature) (p : Proposition Atom) : Type 0 where
  pub fit : IsFit (length features) p
  pub undecided : IsOpen features p

-- the condition, where what it is made of is small
abbrev pub Means : List Feature → Result Condition LinearFault → Proposition Atom → Bool → Type 0
Means features (Ok made) p small = (proposition made ≡ p) × (small ≡ true) × IsOverFeatures features p
Means features (Err faults.NoMemory) p small = ⊤
Means features (Err faults.TooLarge) p small = small ≡ false
