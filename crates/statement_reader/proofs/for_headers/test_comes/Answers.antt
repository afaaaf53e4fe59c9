use Rattle.std.proofs.Common.{◌≡◌, [], sym, ◌∙◌, option_map}
use Rattle.std.proofs.lemmas.Result.{IfOk-weaker}
use Rattle.c_grammar.specs.Machine as machine
use Rattle.reading_states.specs.Views.{as_stack, as_start, as_state}
use Rattle.statement_reader.proofs.Clauses.{some_test}
use Rattle.statement_reader.proofs.for_headers.test_comes.Goals as goal

pub returns-in_default : goal.returns-in_default
returns-in_default c =
    IfOk-weaker c.first_of_test.result
    (λ next. option_map as_state next ≡ machine.want [] (machine.ToRepeat (as_start c.args.start) c.args.place (as_stack c.args.outer)) c.args.sign)
    (λ next. option_map as_state next ≡ machine.test_comes (as_start c.args.start) (as_stack c.args.outer) c.args.place c.args.sign)
    (λ next e. e ∙ sym (some_test (as_start c.args.start) (as_stack c.args.outer) c.args.place c.args.sign c.in_default.not-Semicolon)) c.first_of_test.ensures
