use Rattle.std.proofs.Common.{arith, rules}
use Rattle.command_words.proofs.Numbers.{number_unread}
use Rattle.command_words.proofs.spelling.number_up_to.Goals as goal

pub returns-in-Err : goal.returns-in-Err
returns-in-Err c =
    let h = rw c.in-Err.is at c.parse.ensures.value.0 in
    number_unread c.args.most c.args.text.now c.in-Err.field-0 h (search rules) (omega arith)
