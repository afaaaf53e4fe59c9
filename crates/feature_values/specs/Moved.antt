-- Conditions over a list of atoms, and the same over a list that has more.
use Rattle.std.specs.Prelude.{◌≡◌, ℕ, List, ◌++◌, map, slice_get, slice_index_or, Some}
use Rattle.linear_atoms.specs.declared.atoms.Atom.{Atom}
use Rattle.linear_atoms.specs.declared.atoms.Feature.{Feature}
use Rattle.cpp_conditions.specs.declared.formulas.Formula.{Formula}
use Rattle.cpp_conditions.specs.Distinct.{Grows, OccursIn}
use Rattle.cpp_conditions.specs.Numbering.{AreAllAmong}
use Rattle.cpp_conditions.specs.Propositions.{Proposition, Const, Test, Not, And, Or}
use Rattle.cpp_conditions.specs.Validity.{Plain}
use Rattle.cpp_lines.specs.Sections.{AreConditionsOf}
use Rattle.feature_values.specs.declared.feature_uses.Use.{Use}
use Rattle.feature_values.specs.Values.{tests_of}

-- a list of atoms that rises as the old one, with all atoms of the old one and of these conditions, and no others
pub record AreAdded (conditions : List (Proposition Atom)) (old new : List Atom) : Type 0 where
  pub grows : Grows (λ (a : Atom). OccursIn a conditions) old new
  pub all : AreAllAmong new conditions

-- the number that a formula tests, or 0 where it is no test
abbrev pub test_number : Proposition ℕ → ℕ
test_number (Test n) = n
test_number _ = 0

-- each atom of the first list has this number in the second
abbrev pub AreNewNumbers : List Atom → List Atom → List ℕ → Type 0
AreNewNumbers old new numbers = (n : ℕ) (a : Atom) → slice_get old n ≡ Some a → slice_get new (slice_index_or numbers n 0) ≡ Some a

-- each number replaced by its new one
abbrev pub moved : List ℕ → Proposition ℕ → Proposition ℕ
moved numbers (Const b) = Const b
moved numbers (Test n) = Test (slice_index_or numbers n 0)
moved numbers (Not p) = Not (moved numbers p)
moved numbers (And p q) = And (moved numbers p) (moved numbers q)
moved numbers (Or p q) = Or (moved numbers p) (moved numbers q)

-- for any model and conditions that the old atoms and formulas are those of, the new ones are those of the conditions with
-- the tests of these uses behind them
abbrev pub AddsTests : List Feature → List Use → List Atom → List Formula → List Atom → List Formula → Type 0
AddsTests features uses atoms formulas new_atoms new_formulas = (model : Plain) (conditions : List (Proposition Atom)) → AreConditionsOf model conditions atoms formulas
    → AreConditionsOf model (conditions ++ tests_of features uses) new_atoms new_formulas
