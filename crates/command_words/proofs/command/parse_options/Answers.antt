use Rattle.command_words.specs.Arguments.{texts_of}
use Rattle.command_words.proofs.Faults.{parsed}
use Rattle.command_words.proofs.command.parse_options.Goals as goal

pub returns-clause-ok : goal.returns-clause-ok
returns-clause-ok c = parsed _ (texts_of c.args.words.now) c.try_get_matches_from.result c.in_ok-command.ensures c.try_get_matches_from.ensures.matches
