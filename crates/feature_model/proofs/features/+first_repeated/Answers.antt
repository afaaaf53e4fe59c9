use Rattle.std.proofs.Common.{ap, sym, ◌∙◌}
use Rattle.feature_model.specs.Features.{has_name}
use Rattle.feature_model.proofs.Repeating.{goes_on}
use Rattle.feature_model.proofs.features.+first_repeated.Goals as goal

pub returns-else-has_name : goal.returns-else-has_name
returns-else-has_name t c =
    goes_on c.args.entries.now c.args.before c.split_at.result.1.now c.in_ok-entry.field-0-1.now c.in_ok-entry.entry.now c.split_at.result.0.now c.first_repeated.result c.split_at.ensures.front c.split_at.ensures.back c.in_ok-entry.ensures
    (ap (λ x. has_name x c.split_at.result.0.now) (sym c.bytes.ensures) ∙ sym c.has_name.ensures ∙ c.if-has_name.false) c.first_repeated.ensures
