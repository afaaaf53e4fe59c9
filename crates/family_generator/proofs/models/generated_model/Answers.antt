use Rattle.std.proofs.Common.{◌∙◌}
use Rattle.family_generator.proofs.Valid.{zeros_are_valid}
use Rattle.family_generator.proofs.models.generated_model.Goals as goal

pub returns-clause-valid : goal.returns-clause-valid
returns-clause-valid c =
    zeros_are_valid c.from_vec.result c.from_vec-2.result (c.from_vec.ensures ∙ c.in_ok-features.ensures) (c.from_vec-2.ensures ∙ c.new.ensures.items)
