use Rattle.std.proofs.Common.{◌∙◌}
use Rattle.std.specs.Str.Parse.{ParsesUnsigned, ExplainsUnsignedError, HasUnsignedDigitsIfOk}
use Rattle.clap.specs.Words.{found_of}
use Rattle.clap.proofs.WalkLemmas.{one_text-rows}
use Rattle.command_words.proofs.Numbers.{number_read}
use Rattle.command_words.proofs.command.number_in.Goals as goal

pub returns : goal.returns
returns c = λ text e below.
    number_read (λ bs r. ParsesUnsigned 64 10 bs r × ExplainsUnsignedError 10 bs r × HasUnsignedDigitsIfOk bs r) text c.get_one.result
    (c.get_one.ensures.value text (one_text-rows (found_of c.args.matches.now) c.args.id.now ∙ e)) (λ x g. g.0) below
