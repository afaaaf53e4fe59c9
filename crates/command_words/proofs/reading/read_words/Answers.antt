use Rattle.std.proofs.lemmas.Result.{err_from_is_err_and}
use Rattle.command_words.specs.Arguments.{texts_of}
use Rattle.command_words.proofs.Refused.{settings_refused}
use Rattle.command_words.proofs.reading.read_words.Goals as goal

pub returns-in_err-settings-clause-answer : goal.returns-in_err-settings-clause-answer
returns-in_err-settings-clause-answer c =
    let p = err_from_is_err_and c.from_residual-in_err-settings.result c.from_residual-in_err-settings.ensures.1 in
    rw (p.1, p.2) (settings_refused (texts_of c.args.words.now) c.in_ok-state.state c.in_err-settings.field-0.0 c.in_ok-state.ensures c.in_err-settings.ensures.answer)
