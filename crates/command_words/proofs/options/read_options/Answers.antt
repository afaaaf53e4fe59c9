use Rattle.std.proofs.Common.{rules}
use Rattle.command_words.proofs.Choosing.{chosen-unspelled}
use Rattle.command_words.proofs.options.read_options.Goals as goal

pub returns-then-not-are_spelled : goal.returns-then-not-are_spelled
returns-then-not-are_spelled c = chosen-unspelled c.args.values.now (search rules)
