-- Whatever two files hold, they are a product line, or have a first refusal.
use Rattle.std.proofs.Common.{◌⊎◌, ℕ, List, length, Ok, Err, refl, inl, inr}
use Rattle.fam_outer.specs.declared.dialect.Dialect.{Dialect}
use Rattle.fam_outer.specs.declared.dialect.Unknown.{Unknown}
use Rattle.cpp_conditions.specs.declared.models.Model.{Model}
use Rattle.feature_model.specs.declared.faults.ModelFault.{ModelFault}
use Rattle.c_parser.specs.Variants.{VariantsAreRead}
use Rattle.c_parser.specs.declared.family.Family.{Family}
use Rattle.reading_laws.specs.Answered.{FirstConfigurationsAreFound}
use Rattle.reading_laws.specs.Families.{FamiliesHaveAnswers, HasFamily, IsReadFamily, spells, refused}
use Rattle.reading_laws.specs.Models.{ModelsHaveAnswers, IsPromised, IsRefused}
use Rattle.famlint_loads.specs.declared.fault.Fault.{Fault}
use Rattle.famlint_loads.specs.declared.fault.Fault.TheVariants as fault
use Rattle.famlint_loads.specs.declared.product_line.ProductLine.{ProductLine}
use Rattle.famlint_loads.specs.Faults.{example_of}
use Rattle.famlint_loads.specs.Loads.{IsModel, IsUsableFamily}
use Rattle.famlint_loads.specs.ProductLines.{IsProductLine, IsLineRefused}
use Rattle.famlint_loads.specs.ProductLines as lines

-- what laws of lower crates say
pub record AnswerLaws : Type 0 where
  pub models : ModelsHaveAnswers
  pub families : FamiliesHaveAnswers
  pub configurations : FirstConfigurationsAreFound
  pub variants : VariantsAreRead

-- the model of the bytes, or their refusal
pub data ModelAnswer (unknown : Unknown) (bytes : List ℕ) : Type 0 where
  read : (model : Model) → IsPromised unknown bytes model → ModelAnswer unknown bytes
  none : (given : Fault) → IsModel unknown bytes (Err given) → ModelAnswer unknown bytes

model_by : (unknown : Unknown) (bytes : List ℕ) → ((model : Model) × IsPromised unknown bytes model) ⊎ ((given : ModelFault) × IsRefused unknown bytes given) → ModelAnswer unknown bytes
model_by unknown bytes (inl m) = read m.0 m.1
model_by unknown bytes (inr f) = none (fault.Model f.0) f.1.read

pub some_model : AnswerLaws → (unknown : Unknown) (bytes : List ℕ) → ModelAnswer unknown bytes
some_model laws unknown bytes = model_by unknown bytes (laws.models unknown bytes)

-- the product line of the bytes, or their refusal
pub data LineAnswer (dialect : Dialect) (m f : List ℕ) : Type 0 where
  line : (l : ProductLine) → IsProductLine dialect m f l → LineAnswer dialect m f
  no_line : (given : Fault) → IsLineRefused dialect m f given → LineAnswer dialect m f

usable : (dialect : Dialect) (model : Model) (bytes : List ℕ) (f : Family) → IsReadFamily dialect model bytes f → IsUsableFamily (length model.features) f
usable dialect model bytes f h = record { program = h.program; conditioned = h.conditioned; few = h.few; atoms = h.atoms; below = h.below }

line_by : (dialect : Dialect) (m f : List ℕ) (model : Model) → IsModel dialect.unknown m (Ok model) → HasFamily dialect model f → LineAnswer dialect m f
line_by dialect m f model h (spells family k) =
    line (record { dialect = dialect; model = model; family = family; text = f })
    (record { dialect_is = refl; model = h; family = k.spelled; text = refl; usable = usable dialect model f family k })
line_by dialect m f model h (refused (code, place) k) =
    let given : Fault = fault.File code place (example_of model.features code) in
    no_line given (lines.no_family model h (refl, k))

line_of_model : AnswerLaws → (dialect : Dialect) (m f : List ℕ) → ModelAnswer dialect.unknown m → LineAnswer dialect m f
line_of_model laws dialect m f (read model h) = line_by dialect m f model h.read (laws.families dialect model f h.features h.fit h.atoms)
line_of_model laws dialect m f (none given h) = no_line given (lines.no_model h)

pub some_line : AnswerLaws → (dialect : Dialect) (m f : List ℕ) → LineAnswer dialect m f
some_line laws dialect m f = line_of_model laws dialect m f (some_model laws dialect.unknown m)
