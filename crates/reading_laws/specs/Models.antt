-- That nothing is left open: all bytes are a model or have a refusal, and so are the questions decided that this rests on.
use Rattle.std.specs.Prelude.{ℕ, ◌≤◌, ℤ, ◌⊎◌, List, length, Result, Ok, Err}
use Rattle.fam_outer.specs.declared.dialect.Unknown.{Unknown}
use Rattle.linear_atoms.specs.declared.atoms.Atom.{Atom}
use Rattle.cpp_conditions.specs.Distinct.{AreAtomsOf, HaveFewAtoms, HaveMoreAtoms}
use Rattle.cpp_conditions.specs.declared.models.Model.{Model}
use Rattle.cpp_conditions.specs.Naming.{AreFeatures}
use Rattle.cpp_conditions.specs.Propositions.{Proposition}
use Rattle.cpp_conditions.specs.Validity.{Plain, plain, IsValid, AreFit, AreOpen}
use Rattle.feature_model.specs.declared.faults.ModelFault.{ModelFault}
use Rattle.feature_model.specs.declared.faults.ModelFault.TheVariants as faults
use Rattle.feature_model.specs.Features.{AreDistinct, AreNamed, HaveSwitches}
use Rattle.feature_model.specs.Models.{IsReadAs}

-- the bytes are a model, or have a refusal
abbrev pub ModelsAreReadOrRefused : Type 0
ModelsAreReadOrRefused = (unknown : Unknown) (bytes : List ℕ) → (r : Result Plain ModelFault) × IsReadAs unknown bytes r

-- the bytes are this model, which has all that `read_model` promises of its answer
pub record IsPromised (unknown : Unknown) (bytes : List ℕ) (model : Model) : Type 0 where
  pub read : IsReadAs unknown bytes (Ok (plain model))
  pub features : AreFeatures model.features
  pub distinct : AreDistinct model.features
  pub named : AreNamed model.features
  pub switches : HaveSwitches model.features
  pub fit : AreFit (length model.features) model.constraints
  pub undecided : AreOpen model.features model.constraints
  pub atoms : HaveFewAtoms 64 (plain model).constraints
  pub valid : (values : List ℤ) × IsValid (plain model) values

-- counted from 1, up to so many
abbrev pub IsUpTo : ℕ → ℕ → Type 0
IsUpTo most n = (1 ≤ n) × (n ≤ most)

-- a fault of a feature or of a constraint has the number of one
abbrev pub HasNumber : ModelFault → Type 0
HasNumber (faults.Name n) = IsUpTo 32 n
HasNumber (faults.Twice n) = IsUpTo 32 n
HasNumber (faults.Range n) = IsUpTo 32 n
HasNumber (faults.Constraint n fault) = IsUpTo 256 n
HasNumber _ = Unit {0}

-- the bytes are refused for this fault
pub record IsRefused (unknown : Unknown) (bytes : List ℕ) (fault : ModelFault) : Type 0 where
  pub read : IsReadAs unknown bytes (Err fault)
  pub number : HasNumber fault

-- for all bytes `read_model` has an answer that keeps its contract and is not want of memory
abbrev pub ModelsHaveAnswers : Type 0
ModelsHaveAnswers = (unknown : Unknown) (bytes : List ℕ) → ((model : Model) × IsPromised unknown bytes model) ⊎ ((fault : ModelFault) × IsRefused unknown bytes fault)

-- conditions have a list of their distinct atoms
abbrev pub ConditionsHaveAtoms : Type 0
ConditionsHaveAtoms = (conditions : List (Proposition Atom)) → (atoms : List Atom) × AreAtomsOf conditions atoms

-- at most so many different atoms stand in conditions, or more
abbrev pub AtomsAreFewOrMore : Type 0
AtomsAreFewOrMore = (most : ℕ) (conditions : List (Proposition Atom)) → HaveFewAtoms most conditions ⊎ HaveMoreAtoms most conditions

-- a model has a valid configuration, or none
abbrev pub ModelsAreValidOrVoid : Type 0
ModelsAreValidOrVoid = (model : Plain) → ((values : List ℤ) × IsValid model values) ⊎ ((values : List ℤ) → IsValid model values → ⊥)
