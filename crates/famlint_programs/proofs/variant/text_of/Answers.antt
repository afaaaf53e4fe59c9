use Rattle.std.proofs.Common.{Err, subst, ◌∙◌, ap}
use Rattle.fam_outer.specs.declared.faults.FileCode.{FileCode}
use Rattle.fam_outer.specs.declared.faults.Place.{Place}
use Rattle.cpp_conditions.specs.Validity.{plain}
use Rattle.variant_projector.specs.Variant.{ReadsVariant, IsFaulty}
use Rattle.famlint_programs.proofs.variant.text_of.Goals as goal

pub unreachable-requires : goal.unreachable-requires
unreachable-requires c =
    let s = c.args.selected.now in
    let values = s.config.values in
    let fault : FileCode × Place = (c.in-Err-Fault.field-0-0, c.in-Err-Fault.field-0-1) in
    let refused = subst (ReadsVariant s.line.dialect (plain s.line.model) values c.bytes.result.now) (c.in-Err-Fault.is ∙ ap (λ x. Err x) c.in-Err-Fault.field-0-is) c.variant_text.ensures in
    c.variants_are_projections.ensures.accepted s.line.dialect s.line.model s.line.text s.line.family fault c.requires.line.spelled (subst (λ bytes. IsFaulty s.line.dialect (plain s.line.model) bytes fault) c.bytes.ensures refused)
