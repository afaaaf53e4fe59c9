-- That each file has an answer over a model that was read: a family with all that is promised of it, or a first fault.
use Rattle.std.specs.Prelude.{ℕ, ◌≤◌, List, length}
use Rattle.std.specs.List.{All}
use Rattle.fam_outer.specs.declared.dialect.Dialect.{Dialect}
use Rattle.fam_outer.specs.declared.faults.FileCode.{FileCode}
use Rattle.fam_outer.specs.declared.faults.Place.{Place}
use Rattle.linear_atoms.specs.Atoms.{AreAtoms}
use Rattle.cpp_conditions.specs.declared.models.Model.{Model}
use Rattle.cpp_conditions.specs.Distinct.{HaveFewAtoms}
use Rattle.cpp_conditions.specs.Naming.{AreFeatures}
use Rattle.cpp_conditions.specs.Propositions.{IsBelow}
use Rattle.cpp_conditions.specs.Validity.{plain, AreFit}
use Rattle.cpp_conditions.specs.View.{formula}
use Rattle.c_tree.specs.Project.{IsConditioned}
use Rattle.c_tree.specs.View.{whole}
use Rattle.c_tree.specs.Whole.{IsProgram}
use Rattle.c_parser.specs.declared.family.Family.{Family}
use Rattle.c_parser.specs.FamilyReading.{IsFamilyOf, IsFamilyRefused}

-- the bytes are read as this family, which has all that `read_family` promises of its answer
pub record IsReadFamily (dialect : Dialect) (model : Model) (bytes : List ℕ) (f : Family) : Type 0 where
  pub spelled : IsFamilyOf dialect model bytes f
  pub program : IsProgram (whole f.code)
  pub conditioned : IsConditioned (length f.conditions) (whole f.code)
  pub few : length f.atoms ≤ 320
  pub atoms : AreAtoms (length model.features) f.atoms
  pub below : All (λ c. IsBelow (length f.atoms) (formula c)) f.conditions

-- so has each family that a file is read as over a model that `read_family` may be given
abbrev pub FamiliesArePromised : Type 0
FamiliesArePromised =
    (dialect : Dialect) (model : Model) (bytes : List ℕ) (f : Family) → AreFeatures model.features → AreFit (length model.features) model.constraints → HaveFewAtoms 64 (plain model).constraints
    → IsFamilyOf dialect model bytes f → IsReadFamily dialect model bytes f

-- the bytes are such a family, or they have this fault
pub data HasFamily (dialect : Dialect) (model : Model) (bytes : List ℕ) : Type 0 where
  spells : (f : Family) → IsReadFamily dialect model bytes f → HasFamily dialect model bytes
  refused : (fault : FileCode × Place) → IsFamilyRefused dialect model bytes fault → HasFamily dialect model bytes

-- so it is of each file over such a model
abbrev pub FamiliesHaveAnswers : Type 0
FamiliesHaveAnswers =
    (dialect : Dialect) (model : Model) (bytes : List ℕ) → AreFeatures model.features → AreFit (length model.features) model.constraints → HaveFewAtoms 64 (plain model).constraints → HasFamily dialect model bytes
