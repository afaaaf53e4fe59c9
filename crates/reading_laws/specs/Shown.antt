-- Refusals of names that a variant shows.
use Rattle.std.specs.Prelude.{ℕ, ℤ, List, Some, None, Err}
use Rattle.fam_outer.specs.declared.dialect.Dialect.{Dialect}
use Rattle.fam_outer.specs.declared.dialect.Includes.{Includes}
use Rattle.fam_outer.specs.declared.faults.FileCode.{FileCode}
use Rattle.fam_outer.specs.declared.faults.FileCode.TheVariants.{Undeclared, Twice}
use Rattle.fam_outer.specs.declared.faults.Place.{Place}
use Rattle.cpp_conditions.specs.declared.models.Model.{Model}
use Rattle.cpp_conditions.specs.Validity.{Plain, plain, IsValid}
use Rattle.cpp_lines.specs.Sections.{Told, truths_at}
use Rattle.cpp_lines.specs.Whole.{IsPreprocessed}
use Rattle.c_parser.specs.FamilyItems.{HasItems}
use Rattle.c_parser.specs.FamilyReading.{IsFamilyRefused}
use Rattle.c_parser.specs.Functions.{functions_of_bytes}
use Rattle.c_parser.specs.Items.{Listed}
use Rattle.c_parser.specs.Reading.{IsPlainReadOver}
use Rattle.c_parser.specs.Variants.{given_of}

-- the values are a valid configuration, and the text, read over the functions and the names of the file and the values of the features among
-- these, is refused for this fault
pub record IsShown (dialect : Dialect) (model : Plain) (bytes text : List ℕ) (values : List ℤ) (fault : FileCode × Place) : Type 0 where
  pub valid : IsValid model values
  pub told : Told
  pub listed : Listed
  pub items : HasItems dialect model bytes told listed
  pub refused : (includes : Includes) → IsPlainReadOver includes (given_of model.features (functions_of_bytes bytes) listed.names values) text (Err fault)

-- a name that some valid configuration uses where no declaration of it is in scope, as behind its block or in its own declarator, or a function
-- that it calls undeclared: so is it in the text of the example's variant, at the same place
abbrev pub UndeclaredNamesAreShown : Type 0
UndeclaredNamesAreShown = (dialect : Dialect) (model : Model) (bytes text : List ℕ) (values : List ℤ) (place : Place) → IsFamilyRefused dialect model bytes (Undeclared (Some values), place) → IsPreprocessed dialect (plain model) (truths_at values) bytes text
    → IsShown dialect (plain model) bytes text values (Undeclared None, place)

-- the same of a name that it declares where an earlier declaration of it is in scope, or another one in `main`, where one of the two is static,
-- or a function that it declares with a value and with `void`
abbrev pub SecondDeclarationsAreShown : Type 0
SecondDeclarationsAreShown = (dialect : Dialect) (model : Model) (bytes text : List ℕ) (values : List ℤ) (place : Place) → IsFamilyRefused dialect model bytes (Twice (Some values), place) → IsPreprocessed dialect (plain model) (truths_at values) bytes text
    → IsShown dialect (plain model) bytes text values (Twice None, place)
