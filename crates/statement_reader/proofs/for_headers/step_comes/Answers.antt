use Rattle.std.proofs.Common.{sym, ◌∙◌}
use Rattle.c_tree.specs.View.{term}
use Rattle.reading_states.specs.Views.{as_stack, as_start}
use Rattle.statement_reader.proofs.Clauses.{some_step}
use Rattle.statement_reader.proofs.for_headers.step_comes.Goals as goal

pub returns-in_default : goal.returns-in_default
returns-in_default c = c.changing.ensures ∙ sym (some_step (as_start c.args.start) c.args.first (term c.args.test) (as_stack c.args.outer) c.args.place c.args.sign c.in_default.not-Close)
