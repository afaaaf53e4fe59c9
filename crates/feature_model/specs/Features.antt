-- Features of a model, and the first fault among them.
use Rattle.std.specs.Prelude.{◌≡◌, ℕ, ◌+◌, ℤ, pos, neg_ℤ, int_lt, Bool, true, false, ◌||◌, if◌then◌else◌, List, [], ◌∷◌, ◌++◌, Option, Some, None, option_map}
use Rattle.std.specs.Str.{bytes_eq}
use Rattle.fam_outer.specs.Limits.{most_value}
use Rattle.linear_atoms.specs.declared.atoms.Feature.{Feature}
use Rattle.cpp_conditions.specs.Expressions.{found}
use Rattle.feature_model.specs.declared.faults.ModelFault.{ModelFault}
use Rattle.feature_model.specs.declared.faults.ModelFault.TheVariants as faults
use Rattle.feature_model.specs.declared.shapes.Entry.{Entry}
use Rattle.feature_model.specs.Names.{is_misnamed}

abbrev pub feature_by : List ℕ → Option (ℤ × ℤ) → Feature
feature_by name None = record { name = name; boolean = true; low = pos 0; high = pos 1 }
feature_by name (Some range) = record { name = name; boolean = false; low = range.0; high = range.1 }

-- a feature without a range is Boolean
abbrev pub feature : Entry → Feature
feature entry = feature_by entry.name entry.range

-- ---- faults

-- the ends are the wrong way round, or one passes 2^20 in size
abbrev pub is_bad_range : Option (ℤ × ℤ) → Bool
is_bad_range None = false
is_bad_range (Some range) = int_lt range.1 range.0 || (int_lt range.0 (neg_ℤ (pos most_value)) || int_lt (pos most_value) range.1)

-- the number, counted from this one, of the first entry that fails the test
abbrev pub first_where : (Entry → Bool) → ℕ → List Entry → Option ℕ
first_where fails n [] = None
first_where fails n (e ∷ es) = if fails e then Some n else first_where fails (n + 1) es

abbrev pub has_name : List ℕ → List Entry → Bool
has_name name [] = false
has_name name (e ∷ es) = bytes_eq name e.name || has_name name es

-- the number of the first entry whose name an earlier one has
abbrev pub first_repeated : List Entry → ℕ → List Entry → Option ℕ
first_repeated earlier n [] = None
first_repeated earlier n (e ∷ es) = if has_name e.name earlier then Some n else first_repeated (earlier ++ e ∷ []) (n + 1) es

abbrev pub or_else : Option ModelFault → Option ModelFault → Option ModelFault
or_else None later = later
or_else (Some fault) later = Some fault

-- a name that is none, before a repeated one, before a range
abbrev pub fault_of : List Entry → Option ModelFault
fault_of entries =
    or_else (option_map faults.Name (first_where (λ (e : Entry). is_misnamed e.name) 1 entries))
    (or_else (option_map faults.Twice (first_repeated [] 1 entries)) (option_map faults.Range (first_where (λ (e : Entry). is_bad_range e.range) 1 entries)))

-- ---- what accepted features are

-- no feature has the name of a later one
abbrev pub AreDistinct : List Feature → Type 0
AreDistinct [] = Unit {0}
AreDistinct (f ∷ fs) = (found f.name fs ≡ None) × AreDistinct fs

-- each name is an identifier that begins with at most one underscore and has no meaning of its own
abbrev pub AreNamed : List Feature → Type 0
AreNamed [] = Unit {0}
AreNamed (f ∷ fs) = (is_misnamed f.name ≡ false) × AreNamed fs

-- a Boolean feature has the values 0 and 1
abbrev pub HaveSwitches : List Feature → Type 0
HaveSwitches [] = Unit {0}
HaveSwitches (f ∷ fs) = (f.boolean ≡ true → (f.low ≡ pos 0) × (f.high ≡ pos 1)) × HaveSwitches fs
