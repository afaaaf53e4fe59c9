-- Names with their values.
use Rattle.std.specs.Prelude.{ℕ, ℤ, List, ◌∷◌, ◌++◌, codes, map, zip, flat_map}
use Rattle.std.specs.Fmt.{signed_decimal}
use Rattle.linear_atoms.specs.declared.atoms.Feature.{Feature}

abbrev pub setting_text : List ℕ → ℤ → List ℕ
setting_text name value = name ++ codes "=" ++ signed_decimal value

-- a name with its value, behind a space
abbrev pub spaced_setting : List ℕ × ℤ → List ℕ
spaced_setting s = codes " " ++ setting_text s.0 s.1

-- names with their values, each behind a space
abbrev pub spaced_settings : List (List ℕ) → List ℤ → List ℕ
spaced_settings names values = flat_map spaced_setting (zip names values)

-- a configuration: features with their values, joined by spaces, or `-` where there is none
abbrev pub config_text : List Feature → List ℤ → List ℕ
config_text (f ∷ fs) (v ∷ vs) = setting_text f.name v ++ spaced_settings (map (λ (g : Feature). g.name) fs) vs
config_text _ _ = codes "-"
