-- What is known of the truths of numbered tests.
use Rattle.std.specs.Prelude.{◌≡◌, ℕ, ℤ, pos, ◌≤ℤ◌, Bool, true, false, List, ◌++◌, length, map, slice_index_or, Option, None}
use Rattle.linear_atoms.specs.declared.atoms.Atom.{Atom}
use Rattle.linear_atoms.specs.declared.forms.Linear.{Linear}
use Rattle.linear_atoms.specs.Atoms.{AreAtoms}
use Rattle.linear_atoms.specs.Forms.{IsRising, form_at}
use Rattle.cpp_conditions.specs.declared.conditions.Condition.{Condition}
use Rattle.cpp_conditions.specs.Numbering.{AreAmong, vector_at}
use Rattle.cpp_conditions.specs.Propositions.{Proposition, IsFit, IsBelow, true_at, true_on}
use Rattle.cpp_conditions.specs.Validity.{AreFit, all_true}
use Rattle.cpp_conditions.specs.View.{proposition}
use Rattle.atom_solver.specs.Facts.{AreMet}
use Rattle.atom_solver.specs.Spans.{Agrees, meets}

-- each truth that is known is the vector's
abbrev pub Knows : List (Option Bool) → List Bool → Type 0
Knows known vector = (n : ℕ) → Agrees (slice_index_or known n None) (slice_index_or vector n false)

-- the values that give the atoms such truths and make the formula true do so for the new ones
pub record Keeps (atoms : List Atom) (known : List (Option Bool)) (p : Proposition ℕ) (more : List (Option Bool)) (q : Proposition ℕ) : Type 0 where
  pub knows : (values : List ℤ) → Knows known (vector_at atoms values) → true_on (vector_at atoms values) p ≡ true → Knows more (vector_at atoms values)
  pub true_still : (values : List ℤ) → Knows known (vector_at atoms values) → true_on (vector_at atoms values) p ≡ true → true_on (vector_at atoms values) q ≡ true

-- the form is at least 0 where the atoms have these truths
pub record IsKnownFact (atoms : List Atom) (known : List (Option Bool)) (c : Linear) : Type 0 where
  pub rising : IsRising c.terms
  pub met : (values : List ℤ) → Knows known (vector_at atoms values) → pos 0 ≤ℤ form_at c values

-- at least 0 where another form and further ones are and the atoms have these truths
pub record IsMoreWhere (ends : List Linear) (atoms : List Atom) (known : List (Option Bool)) (a c : Linear) : Type 0 where
  pub rising : IsRising c.terms
  pub met : (values : List ℤ) → AreMet values ends → Knows known (vector_at atoms values) → pos 0 ≤ℤ form_at a values → pos 0 ≤ℤ form_at c values

-- atoms, and a formula over their numbers that is true where the constraints are
pub record StandsForAll (constraints : List Condition) (atoms : List Atom) (f : Proposition ℕ) : Type 0 where
  pub met : (values : List ℤ) → all_true values (map proposition constraints) ≡ true → true_on (vector_at atoms values) f ≡ true
  pub below : IsBelow (length atoms) f
  pub fit : (n : ℕ) → AreFit n constraints → AreAtoms n atoms

-- atoms behind others, those of the proposition that don't stand there
pub record Extends (p : Proposition Atom) (old new : List Atom) : Type 0 where
  pub more : List Atom
  pub new_is : new ≡ old ++ more
  pub among : AreAmong new p
  pub fit : (n : ℕ) → AreAtoms n old → IsFit n p → AreAtoms n new

-- a formula over numbers of atoms that is true where an old one over old atoms is, and what is wanted
pub record AsksToo (wanted : Proposition Atom) (old : List Atom) (f : Proposition ℕ) (new : List Atom) (g : Proposition ℕ) : Type 0 where
  pub met : (values : List ℤ) → true_on (vector_at old values) f ≡ true → true_at values wanted ≡ true → true_on (vector_at new values) g ≡ true
  pub fit : (n : ℕ) → AreAtoms n old → IsFit n wanted → AreAtoms n new

-- a formula over numbers of atoms that is true where the constraints and what is wanted are
pub record StandsFor (constraints : List Condition) (wanted : Proposition Atom) (atoms : List Atom) (f : Proposition ℕ) : Type 0 where
  pub met : (values : List ℤ) → meets constraints wanted values ≡ true → true_on (vector_at atoms values) f ≡ true
  pub fit : (n : ℕ) → AreFit n constraints → IsFit n wanted → AreAtoms n atoms
