use Rattle.std.proofs.Common.{sym, ◌∙◌}
use Rattle.reading_states.specs.Views.{as_stack}
use Rattle.statement_reader.proofs.MoreWords.{no_static_const}
use Rattle.statement_reader.proofs.statics.behind_static_word.Goals as goal

pub returns-in_default : goal.returns-in_default
returns-in_default c = c.static_word.ensures ∙ sym (no_static_const (as_stack c.args.outer) c.args.sign c.in_default.not-Const)
