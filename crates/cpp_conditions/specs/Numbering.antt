-- Conditions whose atoms stand in a list, and the same with the atoms' numbers.
use Rattle.std.specs.Prelude.{◌≡◌, ℕ, ℤ, Bool, ◌⊎◌, List, [], ◌∷◌, map, slice_get, Some}
use Rattle.linear_atoms.specs.declared.atoms.Atom.{Atom}
use Rattle.linear_atoms.specs.Atoms.{holds}
use Rattle.cpp_conditions.specs.Propositions.{Proposition, Const, Test, Not, And, Or, AllTests}

abbrev pub IsAmong : Atom → List Atom → Type 0
IsAmong a [] = ⊥
IsAmong a (b ∷ bs) = (b ≡ a) ⊎ IsAmong a bs

-- each atom of the condition stands in the list
abbrev pub AreAmong : List Atom → Proposition Atom → Type 0
AreAmong atoms p = AllTests (λ (a : Atom). IsAmong a atoms) p

-- each atom of the conditions stands in the list
abbrev pub AreAllAmong : List Atom → List (Proposition Atom) → Type 0
AreAllAmong atoms [] = Unit {0}
AreAllAmong atoms (p ∷ ps) = AreAmong atoms p × AreAllAmong atoms ps

-- the second has the numbers of the first's atoms in the list
abbrev pub IsNumbered : List Atom → Proposition Atom → Proposition ℕ → Type 0
IsNumbered atoms (Const b) (Const c) = b ≡ c
IsNumbered atoms (Test a) (Test n) = slice_get atoms n ≡ Some a
IsNumbered atoms (Not p) (Not f) = IsNumbered atoms p f
IsNumbered atoms (And p q) (And f g) = IsNumbered atoms p f × IsNumbered atoms q g
IsNumbered atoms (Or p q) (Or f g) = IsNumbered atoms p f × IsNumbered atoms q g
IsNumbered atoms _ _ = ⊥

-- the truths of the atoms at these values
abbrev pub vector_at : List Atom → List ℤ → List Bool
vector_at atoms values = map (λ (a : Atom). holds a values) atoms
