use Rattle.std.proofs.Common.{rules, map, string_bytes, Global}
use Rattle.clap.specs.Words.{found_of, rows_of}
use Rattle.command_words.specs.Arguments.{chosen_of}
use Rattle.command_words.proofs.Choosing.{chosen-read, chosen-refused, Reads-ok_or}
use Rattle.command_words.proofs.command.read_spelled.Goals as goal

pub returns-in-Err-2 : goal.returns-in-Err-2
returns-in-Err-2 c = λ values e spelled.
    chosen-refused values c.in-Err-2.field-0 spelled (rw e at c.in-Err-2.ensures.fails) (search rules)

pub returns : goal.returns
returns c = λ values e spelled. rw c.ok_or.ensures.value
    (Reads-ok_or _ (chosen_of values) c.chosen_in.result
    (chosen-read values (rows_of (found_of c.in-Ok.matches)) (map (string_bytes {Z = Global}) c.args.words.now) c.chosen_in.result
    spelled e c.in-Ok.ensures.ok c.in-Ok.ensures.fails c.chosen_in.ensures))
