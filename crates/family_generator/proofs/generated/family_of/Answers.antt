use Rattle.std.proofs.Common.{◌≡◌, ℕ, ◌≤◌, List, [], Err, subst, ◌∙◌}
use Rattle.fam_outer.specs.declared.dialect.Dialect.{Dialect}
use Rattle.fam_outer.specs.declared.faults.FileCode.{FileCode}
use Rattle.fam_outer.specs.declared.faults.FileRefusal.{FileRefusal}
use Rattle.fam_outer.specs.declared.faults.FileRefusal.TheVariants as refusals
use Rattle.fam_outer.specs.declared.faults.Place.{Place}
use Rattle.cpp_conditions.specs.declared.models.Model.{Model}
use Rattle.c_parser.specs.FamilyReading.{IsFamilyRead}
use Rattle.family_generator.specs.Features.{generated_dialect, generated_features}
use Rattle.family_generator.specs.Texts.{generated_text}
use Rattle.family_generator.specs.Laws.{GeneratedFamiliesAreAccepted}
use Rattle.family_generator.proofs.generated.family_of.Goals as goal

no_fault : GeneratedFamiliesAreAccepted → (model : Model) (bytes : List ℕ) (number : ℕ) (refusal : FileRefusal) (code : FileCode) (place : Place) → model.features ≡ generated_features → model.constraints ≡ [] → number ≤ 2000
    → bytes ≡ generated_text number → refusal ≡ refusals.Fault code place → IsFamilyRead generated_dialect model bytes (Err refusal) → ⊥
no_fault law model bytes number refusal code place features constraints few text is read =
    law model number code place features constraints few
    (subst (λ (t : List ℕ). IsFamilyRead generated_dialect model t (Err (refusals.Fault code place))) text (subst (λ (r : FileRefusal). IsFamilyRead generated_dialect model bytes (Err r)) is read))

pub unreachable-requires : goal.unreachable-requires
unreachable-requires c =
    no_fault c.generated_families_are_accepted.ensures c.args.model.now c.bytes.result.now c.args.number c.in-Err-Fault.field-0 c.in-Err-Fault.field-0-0 c.in-Err-Fault.field-0-1
    c.requires.features_are c.requires.constraints_are c.requires.number (c.bytes.ensures ∙ c.requires.text_is) c.in-Err-Fault.field-0-is
    (subst (λ (d : Dialect). IsFamilyRead d c.args.model.now c.bytes.result.now (Err c.in-Err-Fault.field-0)) c.requires.dialect c.in-Err-Fault.ensures.reads)
