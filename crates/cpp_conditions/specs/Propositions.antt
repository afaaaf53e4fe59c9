-- Propositions over tests of any kind.
use Rattle.std.specs.Prelude.{ℕ, ◌<◌, ℤ, Bool, false, not, ◌&&◌, ◌||◌, List, slice_index_or, None}
use Rattle.linear_atoms.specs.declared.atoms.Atom.{Atom}
use Rattle.linear_atoms.specs.declared.atoms.Feature.{Feature}
use Rattle.linear_atoms.specs.Atoms.{holds, IsAtom, IsDecided}

pub data Proposition (X : Type 0) : Type 0 where
  Const : (truth : Bool) → Proposition X
  Test : (test : X) → Proposition X
  Not : (p : Proposition X) → Proposition X
  And : (p q : Proposition X) → Proposition X
  Or : (p q : Proposition X) → Proposition X

-- the truth, where this says which tests hold
abbrev pub truth : {X : Type 0} → (X → Bool) → Proposition X → Bool
truth says (Const b) = b
truth says (Test x) = says x
truth says (Not p) = not (truth says p)
truth says (And p q) = truth says p && truth says q
truth says (Or p q) = truth says p || truth says q

-- at these values of the features
abbrev pub true_at : List ℤ → Proposition Atom → Bool
true_at values p = truth (λ (a : Atom). holds a values) p

-- at this vector of the tests' truths
abbrev pub true_on : List Bool → Proposition ℕ → Bool
true_on vector p = truth (λ n. slice_index_or vector n false) p

-- each test is so
abbrev pub AllTests : {X : Type 0} → (X → Type 0) → Proposition X → Type 0
AllTests P (Const b) = Unit {0}
AllTests P (Test x) = P x
AllTests P (Not p) = AllTests P p
AllTests P (And p q) = AllTests P p × AllTests P q
AllTests P (Or p q) = AllTests P p × AllTests P q

-- each atom is well formed over so many features
abbrev pub IsFit : ℕ → Proposition Atom → Type 0
IsFit count p = AllTests (IsAtom count) p

-- the ranges of the features decide no atom
abbrev pub IsOpen : List Feature → Proposition Atom → Type 0
IsOpen features p = AllTests (λ (a : Atom). IsDecided features a None) p

-- each test's number is below this
abbrev pub IsBelow : ℕ → Proposition ℕ → Type 0
IsBelow count p = AllTests (λ n. n < count) p
