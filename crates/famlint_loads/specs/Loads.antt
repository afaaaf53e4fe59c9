-- Loads and readings, and how what a stage of the work came to is tied to what it should answer.
use Rattle.std.specs.Prelude.{ℕ, ℤ, ◌≡◌, ◌≤◌, ◌<◌, ◌⊎◌, ⊤, List, [], ◌∷◌, length, Option, Some, None, Result, Ok, Err, IfOk}
use Rattle.std.specs.List.{All}
use Rattle.fam_outer.specs.declared.dialect.Dialect.{Dialect}
use Rattle.fam_outer.specs.declared.dialect.Unknown.{Unknown}
use Rattle.fam_outer.specs.Causes.{one_more}
use Rattle.fam_outer.specs.Limits.{model_bytes, file_bytes, certificate_bytes}
use Rattle.fam_outer.specs.Loading.{Source}
use Rattle.fam_outer.specs.declared.faults.FileCode.TheVariants.{TooLong}
use Rattle.linear_atoms.specs.Atoms.{AreAtoms}
use Rattle.cpp_conditions.specs.declared.models.Model.{Model}
use Rattle.cpp_conditions.specs.Distinct.{HaveFewAtoms}
use Rattle.cpp_conditions.specs.Naming.{AreFeatures}
use Rattle.cpp_conditions.specs.Propositions.{IsBelow}
use Rattle.cpp_conditions.specs.Validity.{plain, IsValid, AreFit}
use Rattle.cpp_conditions.specs.View.{formula}
use Rattle.feature_model.specs.Models.{IsReadAs}
use Rattle.c_tree.specs.Project.{IsConditioned}
use Rattle.c_tree.specs.View.{whole}
use Rattle.c_tree.specs.Whole.{IsProgram}
use Rattle.c_parser.specs.declared.family.Family.{Family}
use Rattle.c_parser.specs.FamilyReading.{IsFamilyOf, IsFamilyRefused}
use Rattle.famlint_loads.specs.declared.fault.Done.{Done}
use Rattle.famlint_loads.specs.declared.fault.Fault.{Fault}
use Rattle.famlint_loads.specs.declared.fault.Fault.TheVariants as fault
use Rattle.famlint_loads.specs.declared.fault.Failure.{Failure}
use Rattle.famlint_loads.specs.declared.fault.Failure.TheVariants as failure
use Rattle.famlint_loads.specs.declared.load.FamilyFile.{FamilyFile}
use Rattle.famlint_loads.specs.declared.load.ModelFile.{ModelFile}
use Rattle.famlint_loads.specs.Faults.{example_of}

-- ---- stages

-- a stage came to a result that may be, or to a fault that may be, unless a load failed or memory ran out
abbrev pub Comes : {X : Type 0} → (Result X Fault → Type 0) → Result X Failure → Type 0
Comes MayBe (Ok x) = MayBe (Ok x)
Comes MayBe (Err (failure.Refused fault)) = MayBe (Err fault)
Comes MayBe (Err failure.ReadFault) = ⊤
Comes MayBe (Err failure.NoMemory) = ⊤

-- a load failed
abbrev pub IsReadFault : {X : Type 0} → Result X Failure → Type 0
IsReadFault (Err failure.ReadFault) = ⊤
IsReadFault other = ⊥

-- the path is one of these
abbrev pub IsOneOf : Option (List ℕ) → List (List ℕ) → Type 0
IsOneOf failed [] = ⊥
IsOneOf failed (path ∷ paths) = (failed ≡ Some path) ⊎ IsOneOf failed paths

-- the count of failed loads behind this: one more where a load failed, and else as before
abbrev pub faults_read : {X : Type 0} → Result X Failure → ℕ → ℕ
faults_read (Err failure.ReadFault) n = one_more n
faults_read other n = n

-- the count has not fallen, and is one more exactly where a load failed; the path that failed is one of these
pub record IsReadOf {X : Type 0} (paths : List (List ℕ)) (before now : ℕ) (failed : Option (List ℕ)) (result : Result X Failure) : Type 0 where
  pub later : before ≤ now
  pub counted : now ≡ faults_read result before
  pub path : IsReadFault result → IsOneOf failed paths

-- ---- what was loaded

-- a path, of which at most so many bytes are taken
abbrev pub text_source : List ℕ → ℕ → Source
text_source path limit = record { path = path; limit = limit }

abbrev pub model_source : List ℕ → Source
model_source path = text_source path model_bytes

abbrev pub file_source : List ℕ → Source
file_source path = text_source path file_bytes

abbrev pub certificate_source : List ℕ → Source
certificate_source path = text_source path certificate_bytes

-- what a command's loads and work came to is right for what its paths hold: it is an answer that may be, what is promised of it holds, and
-- where a load failed it is of a path that is loaded for them
pub record IsRight (MayBe : Result Done Fault → Type 0) (Promised : ℕ → List ℕ → Type 0) (IsLoaded : Option (List ℕ) → Type 0)
    (failed : Option (List ℕ)) (result : Result Done Failure) : Type 0 where
  pub answer : Comes MayBe result
  pub promise : IfOk result (λ done. Promised done.status done.text)
  pub order : IsReadFault result → IsLoaded failed

-- ---- texts

-- the bytes, or this fault where they are more than so many
abbrev pub IsText : ℕ → Fault → List ℕ → Result (List ℕ) Fault → Type 0
IsText limit long bytes (Ok text) = (text ≡ bytes) × (length bytes ≤ limit)
IsText limit long bytes (Err fault) = (limit < length bytes) × (fault ≡ long)

-- the fault of a file that is too long, at its first place
abbrev pub long_file : Fault
long_file = fault.File TooLong (record { line = 1; column = 1 }) None

abbrev pub IsFileText : List ℕ → Result (List ℕ) Fault → Type 0
IsFileText bytes answer = IsText file_bytes long_file bytes answer

-- ---- models

-- the model that bytes say, or why they are refused
abbrev pub IsModel : Unknown → List ℕ → Result Model Fault → Type 0
IsModel unknown bytes (Ok model) = IsReadAs unknown bytes (Ok (plain model))
IsModel unknown bytes (Err (fault.Model fault)) = IsReadAs unknown bytes (Err fault)
IsModel unknown bytes (Err other) = ⊥

-- the same, with the bytes
abbrev pub IsModelFile : Unknown → List ℕ → Result ModelFile Fault → Type 0
IsModelFile unknown bytes (Ok made) = IsModel unknown bytes (Ok made.model) × (made.text ≡ bytes)
IsModelFile unknown bytes (Err fault) = IsModel unknown bytes (Err fault)

-- what is known of a model that was read
pub record IsUsable (model : Model) : Type 0 where
  pub features : AreFeatures model.features
  pub fit : AreFit (length model.features) model.constraints
  pub few : HaveFewAtoms 64 (plain model).constraints
  pub valid : (values : List ℤ) × IsValid (plain model) values

-- ---- families

-- the family that bytes spell over a model, or why they are refused
abbrev pub IsFamily : Dialect → Model → List ℕ → Result Family Fault → Type 0
IsFamily dialect model bytes (Ok family) = IsFamilyOf dialect model bytes family
IsFamily dialect model bytes (Err (fault.File code place example)) =
    (example ≡ example_of model.features code) × IsFamilyRefused dialect model bytes (code, place)
IsFamily dialect model bytes (Err other) = ⊥

-- the same, with the bytes
abbrev pub IsFamilyFile : Dialect → Model → List ℕ → Result FamilyFile Fault → Type 0
IsFamilyFile dialect model bytes (Ok made) = IsFamily dialect model bytes (Ok made.family) × (made.text ≡ bytes)
IsFamilyFile dialect model bytes (Err fault) = IsFamily dialect model bytes (Err fault)

-- what is known of a family that was read over so many features
pub record IsUsableFamily (count : ℕ) (family : Family) : Type 0 where
  pub program : IsProgram (whole family.code)
  pub conditioned : IsConditioned (length family.conditions) (whole family.code)
  pub few : length family.atoms ≤ 320
  pub atoms : AreAtoms count family.atoms
  pub below : All (λ c. IsBelow (length family.atoms) (formula c)) family.conditions
