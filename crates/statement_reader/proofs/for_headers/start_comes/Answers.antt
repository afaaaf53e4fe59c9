use Rattle.std.proofs.Common.{sym, ◌∙◌}
use Rattle.reading_states.specs.Views.{as_stack}
use Rattle.statement_reader.proofs.Clauses.{some_start}
use Rattle.statement_reader.proofs.for_headers.start_comes.Goals as goal

pub returns-in_default : goal.returns-in_default
returns-in_default c = c.changing.ensures ∙ sym (some_start c.args.first (as_stack c.args.outer) c.args.place c.args.sign c.in_default.not-Semicolon c.in_default.not-Const c.in_default.not-Int c.in_default.not-Int32 c.in_default.not-Signed)
