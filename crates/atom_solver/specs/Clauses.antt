-- Formulas that must all be true.
use Rattle.std.specs.Prelude.{◌≡◌, ℕ, ℤ, Bool, true, List, [], ◌∷◌, Option}
use Rattle.linear_atoms.specs.declared.atoms.Atom.{Atom}
use Rattle.linear_atoms.specs.declared.forms.Linear.{Linear}
use Rattle.cpp_conditions.specs.declared.formulas.Formula.{Formula}
use Rattle.cpp_conditions.specs.Numbering.{vector_at}
use Rattle.cpp_conditions.specs.Propositions.{Proposition, true_on}
use Rattle.cpp_conditions.specs.View.{formula}
use Rattle.atom_solver.specs.Facts.{AreMet}
use Rattle.atom_solver.specs.Truths.{Knows}

-- each formula is true on the vector
abbrev pub AreTrue : List Bool → List Formula → Type 0
AreTrue v [] = Unit {0}
AreTrue v (f ∷ fs) = (true_on v (formula f) ≡ true) × AreTrue v fs

-- no vector with such truths makes the formulas true
abbrev pub IsDenied : List (Option Bool) → List Formula → Type 0
IsDenied known clauses = (v : List Bool) → Knows known v → AreTrue v clauses → ⊥

-- no values that give the atoms such truths make the formulas true
abbrev pub IsDeniedWhere : List Atom → List (Option Bool) → List Formula → Type 0
IsDeniedWhere atoms known clauses = (values : List ℤ) → Knows known (vector_at atoms values) → AreTrue (vector_at atoms values) clauses → ⊥

-- no values at which these forms are at least 0 give the atoms such truths and make the formulas true
abbrev pub IsVoid : List Linear → List Atom → List (Option Bool) → List Formula → Type 0
IsVoid ends atoms known clauses = (values : List ℤ) → AreMet values ends → Knows known (vector_at atoms values) → AreTrue (vector_at atoms values) clauses → ⊥

-- the new formulas are true too where the proposition is, on a vector with such truths
pub record AddsClauses (known : List (Option Bool)) (p : Proposition ℕ) (old new : List Formula) : Type 0 where
  pub met : (v : List Bool) → Knows known v → true_on v p ≡ true → AreTrue v old → AreTrue v new

-- the values that give the atoms such truths and make the formulas true do so for the new truths
pub record KeepsAll (atoms : List Atom) (known : List (Option Bool)) (clauses : List Formula) (more : List (Option Bool)) : Type 0 where
  pub knows : (values : List ℤ) → Knows known (vector_at atoms values) → AreTrue (vector_at atoms values) clauses → Knows more (vector_at atoms values)
