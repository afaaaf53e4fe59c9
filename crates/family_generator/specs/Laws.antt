-- What holds of generated families.
use Rattle.std.specs.Prelude.{◌≡◌, ℕ, ◌≤◌, [], Err}
use Rattle.fam_outer.specs.declared.faults.FileCode.{FileCode}
use Rattle.fam_outer.specs.declared.faults.FileRefusal.TheVariants as refusals
use Rattle.fam_outer.specs.declared.faults.Place.{Place}
use Rattle.cpp_conditions.specs.declared.models.Model.{Model}
use Rattle.c_parser.specs.FamilyReading.{IsFamilyRead}
use Rattle.family_generator.specs.Features.{generated_dialect, generated_features}
use Rattle.family_generator.specs.Texts.{generated_text}

-- reading a generated family over the generated model has no refusal but want of memory
abbrev pub GeneratedFamiliesAreAccepted : Type 0
GeneratedFamiliesAreAccepted = (model : Model) (number : ℕ) (code : FileCode) (place : Place) → model.features ≡ generated_features → model.constraints ≡ [] → number ≤ 2000
    → IsFamilyRead generated_dialect model (generated_text number) (Err (refusals.Fault code place)) → ⊥
