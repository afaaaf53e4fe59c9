-- Preprocessing and then reading is reading and then projecting (ISO/IEC 9899:2011, 5.1.1.2 and 6.10.1).
use Rattle.std.specs.Prelude.{◌≡◌, ◌⊎◌, ◌≤◌, ℕ, ℤ, Bool, List, length, Ok, Err}
use Rattle.fam_outer.specs.declared.dialect.Dialect.{Dialect}
use Rattle.fam_outer.specs.declared.dialect.Includes.{Includes}
use Rattle.fam_outer.specs.declared.faults.FileCode.{FileCode}
use Rattle.fam_outer.specs.declared.faults.Place.{Place}
use Rattle.linear_atoms.specs.declared.atoms.Feature.{Feature}
use Rattle.cpp_conditions.specs.declared.models.Model.{Model}
use Rattle.cpp_conditions.specs.Validity.{plain, IsValid}
use Rattle.cpp_lines.specs.Sections.{truths_at, truths_on}
use Rattle.cpp_lines.specs.Whole.{blanked_file, HasLineFault, IsPreprocessed}
use Rattle.c_tree.specs.Project.{projected_program}
use Rattle.c_tree.specs.Tree.{Whole}
use Rattle.c_tree.specs.View.{whole}
use Rattle.c_grammar.specs.declared.items.Item.{Item}
use Rattle.c_grammar.specs.Within.{SpellsWithin}
use Rattle.c_parser.specs.declared.family.Family.{Family}
use Rattle.feature_values.specs.Declarators.{presets}
use Rattle.feature_values.specs.Values.{uses_of}
use Rattle.c_parser.specs.FamilyReading.{IsFamilyOf, IsFamilyRefused}
use Rattle.c_parser.specs.Functions.{functions_of_bytes}
use Rattle.c_parser.specs.Items.{AreDistinct}
use Rattle.c_parser.specs.Reading.{Given, items_of, IsPlainReadOver, DeclaresAmong}

-- the program of a family where its conditions have these truths
abbrev pub projection : Family → List Bool → Whole
projection f truths = projected_program truths (whole f.code)

-- the truths of its conditions at the values of a configuration
abbrev pub truths_in : Family → List ℤ → List Bool
truths_in f values = truths_on f.atoms values f.conditions

-- the names of a family
abbrev pub names_in : Family → List (List ℕ)
names_in f = (whole f.code).names

-- what is given of a family to the text of the variant of a configuration: its functions, its names, and the values of the features among
-- these
abbrev pub given_of : List Feature → List (List ℕ) → List (List ℕ) → List ℤ → Given
given_of features functions names values =
    record { functions = functions; names = names; variables = 0; locals = 0; constants = 0; values = presets (uses_of features names) values }

abbrev pub given_at : Model → List (List ℕ) → Family → List ℤ → Given
given_at model functions f values = given_of model.features functions (names_in f) values

-- a program with these start values
abbrev pub starting_at : List ℤ → Whole → Whole
starting_at start p = record { names = p.names; start = start; declared = p.declared; body = p.body; end = p.end }

-- a text has these names at most, and its items over these functions and them spell this program within the limits, but for the start values that features have
-- from outside; whichever includes a file may have
pub record TextSpells (functions names : List (List ℕ)) (text : List ℕ) (p : Whole) : Type 0 where
  pub items : List Item
  pub are : (includes : Includes) → items_of includes functions names text ≡ Ok (record { names = names; items = items })
  pub start : List ℤ
  pub spelled : SpellsWithin names (starting_at start p) items

-- for every list of truths, what stays of a family's text spells the family's projection over its functions and names
abbrev pub TextsSpellProjections : Type 0
TextsSpellProjections = (dialect : Dialect) (model : Model) (bytes text : List ℕ) (f : Family) (truths : List Bool) → IsFamilyOf dialect model bytes f → IsPreprocessed dialect (plain model) (λ conditions. truths) bytes text
    → TextSpells (functions_of_bytes bytes) (names_in f) text (projection f truths)

-- what stays of it at the values of a configuration stays at the truths of the family's conditions there
abbrev pub VariantsAreTexts : Type 0
VariantsAreTexts = (dialect : Dialect) (model : Model) (bytes text : List ℕ) (f : Family) (values : List ℤ) → IsFamilyOf dialect model bytes f → IsPreprocessed dialect (plain model) (truths_at values) bytes text
    → IsPreprocessed dialect (plain model) (λ conditions. truths_in f values) bytes text

-- at every valid configuration it is read as the family's projection over its functions, its names and the values of its features
abbrev pub VariantsAreRead : Type 0
VariantsAreRead = (dialect : Dialect) (model : Model) (bytes text : List ℕ) (f : Family) (values : List ℤ) → IsFamilyOf dialect model bytes f → IsValid (plain model) values → IsPreprocessed dialect (plain model) (truths_at values) bytes text
    → (includes : Includes) → IsPlainReadOver includes (given_at model (functions_of_bytes bytes) f values) text (Ok (projection f (truths_in f values)))

-- an accepted family has no fault of its length, its comments or its lines
abbrev pub FamiliesHaveTexts : Type 0
FamiliesHaveTexts = (dialect : Dialect) (model : Model) (bytes : List ℕ) (f : Family) (fault : FileCode × Place) → IsFamilyOf dialect model bytes f → (blanked_file bytes ≡ Err fault) ⊎ HasLineFault dialect (plain model) bytes fault → ⊥

-- a family has at most 48 names, all distinct: 16 variables, 16 that `main` declares, and 16 constants and features
abbrev pub FamilyNamesAreFew : Type 0
FamilyNamesAreFew = (dialect : Dialect) (model : Model) (bytes : List ℕ) (f : Family) → IsFamilyOf dialect model bytes f → (length (names_in f) ≤ 48) × AreDistinct (names_in f)

-- among them are all names that a variant's text declares
abbrev pub VariantsDeclareAmong : Type 0
VariantsDeclareAmong = (dialect : Dialect) (model : Model) (bytes text : List ℕ) (f : Family) (truths : List Bool) → IsFamilyOf dialect model bytes f → IsPreprocessed dialect (plain model) (λ conditions. truths) bytes text
    → (includes : Includes) → DeclaresAmong includes (functions_of_bytes bytes) (names_in f) text

-- two families that a file is read as have one program, and the same truths at each configuration
pub record AreSameFamily (f g : Family) : Type 0 where
  pub code : whole f.code ≡ whole g.code
  pub truths : (values : List ℤ) → truths_in f values ≡ truths_in g values

-- ---- one reading, over models with the same features, and constraints that mean the same

abbrev pub FamiliesAreReadOnce : Type 0
FamiliesAreReadOnce = (dialect : Dialect) (a b : Model) (bytes : List ℕ) (f g : Family) → plain a ≡ plain b → IsFamilyOf dialect a bytes f → IsFamilyOf dialect b bytes g → AreSameFamily f g

abbrev pub FamiliesAreNotRefused : Type 0
FamiliesAreNotRefused = (dialect : Dialect) (a b : Model) (bytes : List ℕ) (f : Family) (fault : FileCode × Place) → plain a ≡ plain b → IsFamilyOf dialect a bytes f → IsFamilyRefused dialect b bytes fault → ⊥

abbrev pub FamiliesAreRefusedOnce : Type 0
FamiliesAreRefusedOnce = (dialect : Dialect) (a b : Model) (bytes : List ℕ) (f g : FileCode × Place) → plain a ≡ plain b → IsFamilyRefused dialect a bytes f → IsFamilyRefused dialect b bytes g → f ≡ g
