-- Which model bytes are read as, and which refusal the others have.
use Rattle.std.specs.Prelude.{◌≡◌, ⊤, ℕ, ℤ, List, Result, Ok, Err}
use Rattle.fam_outer.specs.declared.dialect.Unknown.{Unknown}
use Rattle.cpp_conditions.specs.declared.models.Model.{Model}
use Rattle.cpp_conditions.specs.Distinct.{HaveFewAtoms, HaveMoreAtoms}
use Rattle.cpp_conditions.specs.Validity.{Plain, plain, IsValid}
use Rattle.feature_model.specs.declared.faults.ModelFault.{ModelFault}
use Rattle.feature_model.specs.declared.faults.ModelFault.TheVariants as faults
use Rattle.fam_outer.specs.declared.refusal.Refusal.{Refusal}
use Rattle.fam_outer.specs.declared.refusal.Refusal.TheVariants as refusals
use Rattle.feature_model.specs.Constraints.{AreRead}
use Rattle.feature_model.specs.Stages.{Told, told_of}

-- the bytes say these features, and constraints that are read as these
pub record Says (unknown : Unknown) (bytes : List ℕ) (model : Plain) : Type 0 where
  pub texts : List (List ℕ)
  pub told : told_of bytes ≡ Ok (record { features = model.features; texts = texts })
  pub read : AreRead unknown model.features 1 texts (Ok model.constraints)

-- a model with more than 64 distinct atoms, or without a valid configuration, is refused
pub data Ends (model : Plain) : Result Plain ModelFault → Type 0 where
  too_many_tests : HaveMoreAtoms 64 model.constraints → Ends model (Err faults.TooManyTests)
  void : HaveFewAtoms 64 model.constraints → ((values : List ℤ) → IsValid model values → ⊥) → Ends model (Err faults.Void)
  accepted : HaveFewAtoms 64 model.constraints → (values : List ℤ) → IsValid model values → Ends model (Ok model)

-- the first fault, or the model
pub data IsReadAs (unknown : Unknown) (bytes : List ℕ) : Result Plain ModelFault → Type 0 where
  untold : (fault : ModelFault) → told_of bytes ≡ Err fault → IsReadAs unknown bytes (Err fault)
  refused : (told : Told) (fault : ModelFault) → told_of bytes ≡ Ok told → AreRead unknown told.features 1 told.texts (Err fault) → IsReadAs unknown bytes (Err fault)
  said : (model : Plain) (end : Result Plain ModelFault) → Says unknown bytes model → Ends model end → IsReadAs unknown bytes end

-- ---- what the code answers

-- the model, or why it is refused, unless memory runs out
abbrev pub Judges : Model → Result Model (Refusal ModelFault) → Type 0
Judges model (Ok made) = Ends (plain model) (Ok (plain made))
Judges model (Err refusals.NoMemory) = ⊤
Judges model (Err (refusals.Fault fault)) = Ends (plain model) (Err fault)

-- the answer is what the bytes are read as, unless memory runs out
abbrev pub IsModelRead : Unknown → List ℕ → Result Model (Refusal ModelFault) → Type 0
IsModelRead unknown bytes (Ok made) = IsReadAs unknown bytes (Ok (plain made))
IsModelRead unknown bytes (Err refusals.NoMemory) = ⊤
IsModelRead unknown bytes (Err (refusals.Fault fault)) = IsReadAs unknown bytes (Err fault)
