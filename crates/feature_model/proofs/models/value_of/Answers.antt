use Rattle.std.proofs.Common.{sym, ◌∙◌, true≢false}
use Rattle.serde_json.specs.View.{view}
use Rattle.feature_model.proofs.Valued.{value_read, no_value}
use Rattle.feature_model.proofs.models.value_of.Goals as goal

pub returns-in-Ok : goal.returns-in-Ok
returns-in-Ok c = value_read c.args.bytes.now (view c.in-Ok.value) c.in-Ok.ensures.ok.0 c.in-Ok.ensures.ok.1

pub returns-else-is_memory : goal.returns-else-is_memory
returns-else-is_memory c = no_value c.args.bytes.now (c.in-Err.ensures.err (λ m. true≢false (sym (c.is_memory.ensures.1 m) ∙ c.if-is_memory.false)))
