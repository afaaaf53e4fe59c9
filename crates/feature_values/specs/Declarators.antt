-- The declarators that give the variables of features their values: of one variable the last whose guards hold decides.
use Rattle.std.specs.Prelude.{ℕ, zero, suc, ◌+◌, ℤ, pos, ◌+ℤ◌, true, List, [], ◌∷◌, ◌++◌, map, slice_index_or, slice_set}
use Rattle.linear_atoms.specs.declared.atoms.Feature.{Feature}
use Rattle.c_tree.specs.declared.lists.Declared.{Declared}
use Rattle.c_tree.specs.declared.lists.Guard.{Guard}
use Rattle.c_tree.specs.Tree.{Whole}
use Rattle.feature_values.specs.declared.feature_uses.Use.{Use}
use Rattle.feature_values.specs.Values.{low_at, width_at}

-- ---- in the program of a family

-- that the condition of this number is true
abbrev pub is_true : ℕ → Guard
is_true n = record { number = n; positive = true }

-- a variable's declarators with each of so many numbers above this one, each where its test is true; the first test has
-- this number, and the others count on
abbrev pub declarators_above : ℕ → ℕ → ℤ → ℕ → List Declared
declarators_above first x low zero = []
declarators_above first x low (suc count) =
    record { target = x; value = low +ℤ pos 1; guards = is_true first ∷ [] } ∷ declarators_above (first + 1) x (low +ℤ pos 1) count

-- of each use, the declarator with the feature's low and no guard, and those with each number above it, up to its high
abbrev pub declarators : ℕ → List Feature → List Use → List Declared
declarators first features [] = []
declarators first features (u ∷ us) =
    record { target = u.name; value = low_at features u.feature; guards = [] }
    ∷ (declarators_above first u.name (low_at features u.feature) (width_at features u.feature) ++ declarators (first + width_at features u.feature) features us)

-- the program with these declarators behind its own
abbrev pub with_values : ℕ → List Feature → List Use → Whole → Whole
with_values first features uses p = record {
  names = p.names;
  start = p.start;
  declared = p.declared ++ declarators first features uses;
  body = p.body;
  end = p.end;
}

-- ---- in the program of a configuration

-- of each use the number of its name, and the feature's value
abbrev pub presets : List Use → List ℤ → List (ℕ × ℤ)
presets uses values = map (λ (u : Use). (u.name, slice_index_or values u.feature (pos 0))) uses

-- start values, with each of these put in its place
abbrev pub preset : List (ℕ × ℤ) → List ℤ → List ℤ
preset [] start = start
preset (s ∷ ss) start = preset ss (slice_set start s.0 s.1)

-- the program with these start values
abbrev pub with_presets : List (ℕ × ℤ) → Whole → Whole
with_presets settings p = record {
  names = p.names;
  start = preset settings p.start;
  declared = p.declared;
  body = p.body;
  end = p.end;
}
