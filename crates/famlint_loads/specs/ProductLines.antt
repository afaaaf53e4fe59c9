-- A model and a family over it, or the first refusal of these.
use Rattle.std.specs.Prelude.{ℕ, ℤ, ◌≡◌, ◌⊎◌, List, length, Option, Some, Result, Ok, Err}
use Rattle.fam_outer.specs.declared.dialect.Dialect.{Dialect}
use Rattle.fam_outer.specs.declared.dialect.Unknown.{Unknown}
use Rattle.fam_outer.specs.declared.dialect.Includes.TheVariants.{Assert}
use Rattle.cpp_conditions.specs.declared.models.Model.{Model}
use Rattle.cpp_conditions.specs.Validity.{plain}
use Rattle.c_tree.specs.Tree.{Whole}
use Rattle.c_parser.specs.FamilyReading.{IsFamilyOf}
use Rattle.c_parser.specs.Reading.{IsPlainReadOver}
use Rattle.c_parser.specs.Functions.{functions_of_bytes}
use Rattle.c_parser.specs.Variants.{given_at}
use Rattle.variant_projector.specs.Variant.{IsVariant}
use Rattle.famlint_loads.specs.declared.fault.Failure.{Failure}
use Rattle.famlint_loads.specs.declared.fault.Fault.{Fault}
use Rattle.famlint_loads.specs.declared.product_line.ProductLine.{ProductLine}
use Rattle.famlint_loads.specs.declared.product_line.ProductLineFiles.{ProductLineFiles}
use Rattle.famlint_loads.specs.Loads.{Comes, IsReadFault, IsModel, IsFamily, IsUsable, IsUsableFamily}

-- the model is refused, or else the file
pub data IsLineRefused (dialect : Dialect) (m f : List ℕ) (fault : Fault) : Type 0 where
  no_model : IsModel dialect.unknown m (Err fault) → IsLineRefused dialect m f fault
  no_family : (model : Model) → IsModel dialect.unknown m (Ok model) → IsFamily dialect model f (Err fault) → IsLineRefused dialect m f fault

-- the model and the family are those of the bytes, read so, and the family is usable
pub record IsProductLine (dialect : Dialect) (m f : List ℕ) (l : ProductLine) : Type 0 where
  pub dialect_is : l.dialect ≡ dialect
  pub model : IsModel dialect.unknown m (Ok l.model)
  pub family : IsFamily dialect l.model f (Ok l.family)
  pub text : l.text ≡ f
  pub usable : IsUsableFamily (length l.model.features) l.family

abbrev pub ReadsProductLine : Dialect → List ℕ → List ℕ → Result ProductLine Fault → Type 0
ReadsProductLine dialect m f (Ok l) = IsProductLine dialect m f l
ReadsProductLine dialect m f (Err fault) = IsLineRefused dialect m f fault

-- the same, with the bytes of the model
abbrev pub ReadsProductLineFiles : Dialect → List ℕ → List ℕ → Result ProductLineFiles Fault → Type 0
ReadsProductLineFiles dialect m f (Ok made) = IsProductLine dialect m f made.line × (made.model_text ≡ m)
ReadsProductLineFiles dialect m f (Err fault) = IsLineRefused dialect m f fault

-- a path that is loaded: MODEL, and where it is accepted FILE
abbrev pub IsLoadedFor : Unknown → List ℕ → List ℕ → List ℕ → Option (List ℕ) → Type 0
IsLoadedFor unknown model_path file_path m failed = (failed ≡ Some model_path) ⊎ ((failed ≡ Some file_path) × (model : Model) × IsModel unknown m (Ok model))

-- the loads of MODEL and FILE came to a result that may be, and a load that failed is of a path that is loaded for these bytes of MODEL
pub record ComesOfLine {X : Type 0} (MayBe : Result X Fault → Type 0) (unknown : Unknown) (model_path file_path m : List ℕ)
    (failed : Option (List ℕ)) (result : Result X Failure) : Type 0 where
  pub comes : Comes MayBe result
  pub order : IsReadFault result → IsLoadedFor unknown model_path file_path m failed

-- what is known of them once they are loaded
pub record IsUsableLine (l : ProductLine) : Type 0 where
  pub model : IsUsable l.model
  pub family : IsUsableFamily (length l.model.features) l.family
  pub spelled : IsFamilyOf l.dialect l.model l.text l.family

-- ---- the program of a variant

-- the program of the variant of a configuration: what its preprocessed text is read as, over the functions and the names of the family and
-- with its values of the features among these; it has no include
pub record IsProgramAt (l : ProductLine) (values : List ℤ) (p : Whole) : Type 0 where
  pub text : List ℕ
  pub preprocessed : IsVariant l.dialect (plain l.model) values l.text text
  pub read : IsPlainReadOver Assert (given_at l.model (functions_of_bytes l.text) l.family values) text (Ok p)
