-- Models as plain data, and their valid configurations.
use Rattle.std.specs.Prelude.{◌≡◌, ℕ, ℤ, int_le, Bool, true, false, ◌&&◌, List, [], ◌∷◌, map, length}
use Rattle.linear_atoms.specs.declared.atoms.Atom.{Atom}
use Rattle.linear_atoms.specs.declared.atoms.Feature.{Feature}
use Rattle.linear_atoms.specs.Atoms.{AreValues, IsWithin}
use Rattle.cpp_conditions.specs.declared.conditions.Condition.{Condition}
use Rattle.cpp_conditions.specs.declared.models.Model.{Model}
use Rattle.cpp_conditions.specs.Propositions.{Proposition, IsFit, IsOpen, true_at}
use Rattle.cpp_conditions.specs.View.{proposition}

-- features, and constraints over them
pub record Plain : Type 0 where
  pub features : List Feature
  pub constraints : List (Proposition Atom)

abbrev pub plain : Model → Plain
plain model = record { features = model.features; constraints = map proposition model.constraints }

-- ---- valid configurations

abbrev pub is_in_range : Feature → ℤ → Bool
is_in_range f v = int_le f.low v && int_le v f.high

-- one value per feature, each from its low to its high
abbrev pub is_within : List Feature → List ℤ → Bool
is_within [] [] = true
is_within [] (v ∷ vs) = false
is_within (f ∷ fs) [] = false
is_within (f ∷ fs) (v ∷ vs) = is_in_range f v && is_within fs vs

abbrev pub all_true : List ℤ → List (Proposition Atom) → Bool
all_true values [] = true
all_true values (p ∷ ps) = true_at values p && all_true values ps

-- within the ranges, and every constraint is true
abbrev pub is_valid : Plain → List ℤ → Bool
is_valid model values = is_within model.features values && all_true values model.constraints

abbrev pub IsValid : Plain → List ℤ → Type 0
IsValid model values = is_valid model values ≡ true

-- a configuration: one value per feature, each in its range, and so at most 2^20 in size
pub record IsConfig (features : List Feature) (values : List ℤ) : Type 0 where
  pub within : IsWithin features values
  pub count : length values ≡ length features
  pub small : AreValues values

-- ---- what is asked of constraints

abbrev pub AreFit : ℕ → List Condition → Type 0
AreFit count [] = Unit {0}
AreFit count (c ∷ cs) = IsFit count (proposition c) × AreFit count cs

abbrev pub AreOpen : List Feature → List Condition → Type 0
AreOpen features [] = Unit {0}
AreOpen features (c ∷ cs) = IsOpen features (proposition c) × AreOpen features cs
