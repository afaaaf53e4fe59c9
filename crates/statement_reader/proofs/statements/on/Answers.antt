use Rattle.std.proofs.Common.{◌≡◌, sym, ◌∙◌, option_map}
use Rattle.std.proofs.lemmas.Result.{IfOk-weaker}
use Rattle.c_tree.specs.Tree.{Done}
use Rattle.c_tree.specs.View.{front}
use Rattle.c_grammar.specs.Machine as machine
use Rattle.reading_states.specs.Views.{as_stack, as_state}
use Rattle.statement_reader.proofs.NoElse.{no_else}
use Rattle.statement_reader.proofs.statements.on.Goals as goal

pub returns-in_default : goal.returns-in_default
returns-in_default c =
    IfOk-weaker c.proceed_behind.result
    (λ next. option_map as_state next ≡ machine.proceed (machine.placed (as_stack c.args.outer) (front c.args.statement Done)) c.args.place c.args.sign)
    (λ next. option_map as_state next ≡ machine.on (as_stack c.args.outer) (front c.args.statement Done) c.args.place c.args.sign)
    (λ next e. e ∙ sym (no_else (as_stack c.args.outer) (front c.args.statement Done) c.args.place c.args.sign c.in_default.not-Else)) c.proceed_behind.ensures
