-- The variant that settings select: a product line and a valid configuration, or the first refusal of these.
use Rattle.std.specs.Prelude.{ℕ, ◌≡◌, List, Result, Ok, Err}
use Rattle.fam_outer.specs.declared.dialect.Dialect.{Dialect}
use Rattle.cpp_conditions.specs.declared.models.Model.{Model}
use Rattle.linear_atoms.specs.declared.atoms.Config.{Config}
use Rattle.feature_model.specs.declared.faults.ConfigFault.{ConfigFault}
use Rattle.feature_model.specs.Settings.{config_of}
use Rattle.c_tree.specs.Tree.{Whole}
use Rattle.famlint_loads.specs.declared.fault.Fault.{Fault}
use Rattle.famlint_loads.specs.declared.product_line.ProductLine.{ProductLine}
use Rattle.famlint_loads.specs.declared.selected.Selected.{Selected}
use Rattle.famlint_loads.specs.Faults.{fault_of_settings}
use Rattle.famlint_loads.specs.ProductLines.{IsLineRefused, IsProductLine, IsProgramAt}

-- the configuration that settings give, or why they are refused
abbrev pub IsSettled : Model → List (List ℕ) → Result Config Fault → Type 0
IsSettled model settings (Ok config) = config_of model settings ≡ Ok config.values
IsSettled model settings (Err fault) = (given : ConfigFault) × (config_of model settings ≡ Err given) × (fault ≡ fault_of_settings model.features given)

-- the model is refused, or else the file, or else the settings
pub data IsSelectionRefused (dialect : Dialect) (m f : List ℕ) (settings : List (List ℕ)) (fault : Fault) : Type 0 where
  no_line : IsLineRefused dialect m f fault → IsSelectionRefused dialect m f settings fault
  no_settings : (line : ProductLine) → IsProductLine dialect m f line → IsSettled line.model settings (Err fault) → IsSelectionRefused dialect m f settings fault

-- the model, the family and the configuration are those of the bytes and the settings
pub record AreSelected (dialect : Dialect) (m f : List ℕ) (settings : List (List ℕ)) (s : Selected) : Type 0 where
  pub line : IsProductLine dialect m f s.line
  pub config : IsSettled s.line.model settings (Ok s.config)

abbrev pub IsSelected : Dialect → List ℕ → List ℕ → List (List ℕ) → Result Selected Fault → Type 0
IsSelected dialect m f settings (Ok s) = AreSelected dialect m f settings s
IsSelected dialect m f settings (Err fault) = IsSelectionRefused dialect m f settings fault

-- the program of the variant that is selected
abbrev pub IsProgramOf : Selected → Whole → Type 0
IsProgramOf s p = IsProgramAt s.line s.config.values p
