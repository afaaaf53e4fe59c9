-- That each file has an answer: whatever its bytes are, the rules say a family that they spell, or a first fault.
use Rattle.std.specs.Prelude.{◌≡◌, ◌⊎◌, ⊤, ℕ, ℤ, Bool, List, Option, Result, Ok, Err}
use Rattle.fam_outer.specs.declared.dialect.Dialect.{Dialect}
use Rattle.fam_outer.specs.declared.faults.FileCode.{FileCode}
use Rattle.fam_outer.specs.declared.faults.FileRefusal.{FileRefusal}
use Rattle.fam_outer.specs.declared.faults.FileRefusal.TheVariants as refusals
use Rattle.fam_outer.specs.declared.faults.Place.{Place}
use Rattle.linear_atoms.specs.declared.atoms.Atom.{Atom}
use Rattle.linear_atoms.specs.declared.atoms.Config.{Config}
use Rattle.cpp_conditions.specs.declared.models.Model.{Model}
use Rattle.cpp_conditions.specs.Propositions.{Proposition}
use Rattle.cpp_conditions.specs.Validity.{Plain}
use Rattle.atom_solver.specs.Solutions.{Finds}
use Rattle.c_grammar.specs.declared.items.Item.{Item}
use Rattle.cpp_lines.specs.Sections.{Told, TextIsRead}
use Rattle.cpp_lines.specs.Whole.{blanked_file, HasLineFault, IsPreprocessed}
use Rattle.family_names.specs.Names.{NameContext, IsFirstNameFault}
use Rattle.c_parser.specs.declared.family.Family.{Family}
use Rattle.c_parser.specs.FamilyReading.{IsFamilyRead}

-- each text has its lines and conditions, or a first line with a fault
abbrev pub TextsHaveLines : Type 0
TextsHaveLines = (dialect : Dialect) (model : Plain) (text : List ℕ) → (r : Result Told (FileCode × Place)) × TextIsRead dialect model text r

-- each file has the text that stays of it where its conditions have these truths, or a first fault before that
abbrev pub HasVariant : Dialect → Plain → (List (Proposition Atom) → List Bool) → List ℕ → Type 0
HasVariant dialect model truths bytes = ((text : List ℕ) × IsPreprocessed dialect model truths bytes text) ⊎ ((fault : FileCode × Place) × ((blanked_file bytes ≡ Err fault) ⊎ HasLineFault dialect model bytes fault))

abbrev pub VariantsHaveTexts : Type 0
VariantsHaveTexts = (dialect : Dialect) (model : Plain) (truths : List (Proposition Atom) → List Bool) (bytes : List ℕ) → HasVariant dialect model truths bytes

-- whatever is asked of valid configurations, there is a first one at which it is so, or none
abbrev pub FirstConfigurationsAreFound : Type 0
FirstConfigurationsAreFound = (model : Model) (holds : List ℤ → Bool) → (found : Option Config) × Finds model holds found

-- items have a first fault of a name, or none
abbrev pub NamesAreJudged : Type 0
NamesAreJudged = (context : NameContext) (items : List Item) → (fault : Option (FileCode × Place)) × IsFirstNameFault context items fault

-- the answer is a family or a fault, and not that memory ran out
abbrev pub IsTold : Result Family FileRefusal → Type 0
IsTold (Ok f) = ⊤
IsTold (Err (refusals.Fault code place)) = ⊤
IsTold (Err refusals.NoMemory) = ⊥

-- such an answer of a call that reads the bytes as a family over a model
pub record IsAnswered (dialect : Dialect) (model : Model) (bytes : List ℕ) : Type 0 where
  pub answer : Result Family FileRefusal
  pub told : IsTold answer
  pub read : IsFamilyRead dialect model bytes answer

-- each file has one, over each model
abbrev pub FilesAreAnswered : Type 0
FilesAreAnswered = (dialect : Dialect) (model : Model) (bytes : List ℕ) → IsAnswered dialect model bytes
