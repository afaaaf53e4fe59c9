-- Atoms and literals at configurations, and over the ranges of the features.
use Rattle.std.specs.Prelude.{◌≡◌, ℕ, ◌≤◌, ◌<◌, ℤ, pos, ◌≤ℤ◌, ◌<ℤ◌, int_le, unsigned_abs, Bool, true, false, not, if◌then◌else◌, List, [], ◌∷◌, Option, Some, None}
use Rattle.fam_outer.specs.Limits.{most_value}
use Rattle.linear_atoms.specs.declared.atoms.Feature.{Feature}
use Rattle.linear_atoms.specs.declared.atoms.Atom.{Atom}
use Rattle.linear_atoms.specs.declared.atoms.Literal.{Literal}
use Rattle.linear_atoms.specs.Divisors.{common_divisor}
use Rattle.linear_atoms.specs.Forms.{IsRising, are_small, sum_at}
pub use Rattle.linear_terms.specs.Terms.{AreBelow}

-- the sum of the terms is at least the bound
abbrev pub holds : Atom → List ℤ → Bool
holds atom values = int_le atom.bound (sum_at atom.terms values)

abbrev pub literal_holds : Literal → List ℤ → Bool
literal_holds literal values = if literal.positive then holds literal.atom values else not (holds literal.atom values)

abbrev pub LeadsPositive : List (ℕ × ℤ) → Type 0
LeadsPositive [] = ⊥
LeadsPositive (t ∷ ts) = pos 0 <ℤ t.1

-- a well-formed atom over so many features: terms rise, the coefficients are coprime and at most 2^31 in size, the
-- first is positive, and the bound is at most 2^31 + 1 in size
pub record IsAtom (count : ℕ) (atom : Atom) : Type 0 where
  pub rising : IsRising atom.terms
  pub coprime : common_divisor atom.terms ≡ 1
  pub small : are_small atom.terms ≡ true
  pub positive : LeadsPositive atom.terms
  pub below : AreBelow count atom.terms
  pub bounded : unsigned_abs atom.bound ≤ 2147483649

abbrev pub AreAtoms : ℕ → List Atom → Type 0
AreAtoms count [] = Unit {0}
AreAtoms count (a ∷ bs) = IsAtom count a × AreAtoms count bs

abbrev pub AreLiterals : ℕ → List Literal → Type 0
AreLiterals count [] = Unit {0}
AreLiterals count (l ∷ ls) = IsAtom count l.atom × AreLiterals count ls

-- each value is at most 2^20 in size
abbrev pub AreValues : List ℤ → Type 0
AreValues [] = Unit {0}
AreValues (v ∷ vs) = (unsigned_abs v ≤ most_value) × AreValues vs

-- no range is empty, and its ends are at most 2^20 in size
abbrev pub AreRanges : List Feature → Type 0
AreRanges [] = Unit {0}
AreRanges (f ∷ fs) = (f.low ≤ℤ f.high) × (unsigned_abs f.low ≤ most_value) × (unsigned_abs f.high ≤ most_value) × AreRanges fs

-- a configuration: one value per feature, in its range
abbrev pub IsWithin : List Feature → List ℤ → Type 0
IsWithin [] [] = Unit {0}
IsWithin [] (v ∷ vs) = ⊥
IsWithin (f ∷ fs) [] = ⊥
IsWithin (f ∷ fs) (v ∷ vs) = (f.low ≤ℤ v) × (v ≤ℤ f.high) × IsWithin fs vs

-- each configuration within the ranges gives this truth; with None, some give each
abbrev pub IsDecided : List Feature → Atom → Option Bool → Type 0
IsDecided features atom (Some truth) = (values : List ℤ) → IsWithin features values → holds atom values ≡ truth
IsDecided features atom None = ((values : List ℤ) × IsWithin features values × (holds atom values ≡ true)) × ((values : List ℤ) × IsWithin features values × (holds atom values ≡ false))
