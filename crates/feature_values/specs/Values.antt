-- Features that code uses as values (ISO/IEC 9899:2011, 6.5.1), and the tests that tell their values.
use Rattle.std.specs.Prelude.{ℕ, zero, suc, ◌+◌, ◌<◌, ℤ, pos, ◌+ℤ◌, ◌-ℤ◌, unsigned_abs, List, [], ◌∷◌, ◌++◌, map, length, slice_index_or, Option, Some, None}
use Rattle.std.specs.List.{All}
use Rattle.linear_atoms.specs.declared.atoms.Atom.{Atom}
use Rattle.linear_atoms.specs.declared.atoms.Feature.{Feature}
use Rattle.cpp_conditions.specs.Expressions.{found}
use Rattle.cpp_conditions.specs.Propositions.{Proposition, Test}
use Rattle.feature_values.specs.declared.feature_uses.Use.{Use}

-- ---- uses

-- the use of the name with this number, where a feature has it
abbrev pub use_at : Option ℕ → ℕ → List Use
use_at None x = []
use_at (Some n) x = record { feature = n; name = x } ∷ []

-- names from a number on: those of features, each with the first feature of that name
abbrev pub uses_from : List Feature → ℕ → List (List ℕ) → List Use
uses_from features x [] = []
uses_from features x (name ∷ names) = use_at (found name features) x ++ uses_from features (x + 1) names

abbrev pub uses_of : List Feature → List (List ℕ) → List Use
uses_of features names = uses_from features 0 names

-- each use is of one of the features
abbrev pub AreUses : List Feature → List Use → Type 0
AreUses features uses = All (λ (u : Use). u.feature < length features) uses

-- each use is of one of so many names
abbrev pub AreNamed : ℕ → List Use → Type 0
AreNamed count uses = All (λ (u : Use). u.name < count) uses

-- ---- ranges

-- how many tests tell the value of a feature: its high less its low
abbrev pub width : Feature → ℕ
width f = unsigned_abs (f.high -ℤ f.low)

abbrev pub low_at : List Feature → ℕ → ℤ
low_at features n = slice_index_or (map (λ (f : Feature). f.low) features) n (pos 0)

abbrev pub width_at : List Feature → ℕ → ℕ
width_at features n = slice_index_or (map width features) n 0

-- how many tests tell the values of all that are used
abbrev pub test_count : List Feature → List Use → ℕ
test_count features [] = 0
test_count features (u ∷ us) = width_at features u.feature + test_count features us

-- ---- tests

-- the feature is at least this
abbrev pub value_test : ℕ → ℤ → Atom
value_test n k = record { terms = (n, pos 1) ∷ []; bound = k }

-- it is at least each of so many numbers above this one
abbrev pub tests_above : ℕ → ℤ → ℕ → List (Proposition Atom)
tests_above n low zero = []
tests_above n low (suc count) = Test (value_test n (low +ℤ pos 1)) ∷ tests_above n (low +ℤ pos 1) count

-- of each use, the tests for each number above its low, up to its high
abbrev pub tests_of : List Feature → List Use → List (Proposition Atom)
tests_of features [] = []
tests_of features (u ∷ us) = tests_above u.feature (low_at features u.feature) (width_at features u.feature) ++ tests_of features us
