-- What the bytes of a family are read as: the program of its code with groups, or its refusal.
use Rattle.std.specs.Prelude.{◌≡◌, ⊤, ℕ, List, ◌++◌, length, Result, Ok, Err}
use Rattle.fam_outer.specs.declared.dialect.Dialect.{Dialect}
use Rattle.fam_outer.specs.declared.faults.Place.{Place}
use Rattle.fam_outer.specs.declared.faults.FileCode.{FileCode}
use Rattle.fam_outer.specs.declared.faults.FileRefusal.{FileRefusal}
use Rattle.fam_outer.specs.declared.faults.FileRefusal.TheVariants as refusals
use Rattle.linear_atoms.specs.declared.atoms.Atom.{Atom}
use Rattle.cpp_conditions.specs.declared.formulas.Formula.{Formula}
use Rattle.cpp_conditions.specs.declared.models.Model.{Model}
use Rattle.cpp_conditions.specs.Validity.{Plain, plain}
use Rattle.cpp_lines.specs.Code.{code_of}
use Rattle.cpp_lines.specs.Sections.{Told, AreConditionsOf}
use Rattle.c_tree.specs.Tree.{Whole}
use Rattle.c_tree.specs.View.{whole}
use Rattle.feature_values.specs.declared.feature_uses.Use.{Use}
use Rattle.feature_values.specs.Declarators.{with_values}
use Rattle.feature_values.specs.Values.{uses_of, tests_of}
use Rattle.family_names.specs.Names.{NameContext, IsFirstNameFault}
use Rattle.for_blocks.specs.Blocks.{unfolded}
use Rattle.c_parser.specs.declared.family_items.Conditions.{Conditions}
use Rattle.c_parser.specs.declared.family.Family.{Family}
use Rattle.c_parser.specs.Functions.{own_functions}
use Rattle.c_parser.specs.FamilyItems.{HasItems, HasEarlyFault}
use Rattle.c_parser.specs.Items.{Listed}
use Rattle.c_parser.specs.Phases.{FileMeaning, IsAcceptedFile, IsRefusedFile}

-- the names and items of a file with groups, and its functions and its conditions with their atoms
pub record IsListedFamily (dialect : Dialect) (model : Plain) (bytes : List ℕ) (l : Listed) (known : Conditions) : Type 0 where
  pub told : Told
  pub items : HasItems dialect model bytes told l
  pub functions : known.functions ≡ own_functions (code_of items.blanked)
  pub conditions : AreConditionsOf model told.conditions known.atoms known.formulas

abbrev pub context_of : Model → List Atom → List Formula → List (List ℕ) → List (List ℕ) → NameContext
context_of model atoms conditions names functions =
    record { model = model; atoms = atoms; conditions = conditions; names = names; functions = functions }

-- files with groups over a model; their functions and conditions are known besides. Names are judged as in files without groups, where a `for`
-- that declares variables stands as a block
abbrev pub families_over : Dialect → Model → FileMeaning Conditions
families_over dialect model = record {
  refused = HasEarlyFault dialect (plain model);
  listed = IsListedFamily dialect (plain model);
  named = λ l known fault. IsFirstNameFault (context_of model known.atoms known.formulas l.names known.functions) (unfolded l.items) fault;
}

-- the features that a program names
abbrev pub uses_in : Model → Whole → List Use
uses_in model p = uses_of model.features p.names

-- the bytes are read as this family: the program that their items spell, in which each feature that it names has its value from the tests of
-- it, and the conditions of the file, with these tests behind them
pub record IsFamilyOf (dialect : Dialect) (model : Model) (bytes : List ℕ) (f : Family) : Type 0 where
  pub known : Conditions
  pub spelled : Whole
  pub accepted : IsAcceptedFile (families_over dialect model) bytes known spelled
  pub code : whole f.code ≡ with_values (length known.formulas) model.features (uses_in model spelled) spelled
  pub conditions : AreConditionsOf (plain model) (accepted.are.told.conditions ++ tests_of model.features (uses_in model spelled)) f.atoms f.conditions

-- the bytes have this fault: one of an earlier phase, or else of their items
abbrev pub IsFamilyRefused : Dialect → Model → List ℕ → FileCode × Place → Type 0
IsFamilyRefused dialect model bytes fault = IsRefusedFile (families_over dialect model) bytes fault

-- what a call that reads a family answers; want of memory is free
abbrev pub IsFamilyRead : Dialect → Model → List ℕ → Result Family FileRefusal → Type 0
IsFamilyRead dialect model bytes (Ok f) = IsFamilyOf dialect model bytes f
IsFamilyRead dialect model bytes (Err (refusals.Fault code place)) = IsFamilyRefused dialect model bytes (code, place)
IsFamilyRead dialect model bytes (Err refusals.NoMemory) = ⊤
