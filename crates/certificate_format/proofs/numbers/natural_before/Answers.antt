use Rattle.certificate_format.proofs.Digits.{no_cut_before, no_decimal_before}
use Rattle.std.specs.Fmt.{decimal}
use Rattle.certificate_format.proofs.numbers.natural_before.Goals as goal

pub returns-in_default : goal.returns-in_default
returns-in_default c n rest h e = no_cut_before c.args.separator.now c.args.text.now (decimal n) rest c.in_default.ensures e

pub returns-in_default-natural : goal.returns-in_default-natural
returns-in_default-natural c =
    no_decimal_before c.args.separator.now c.args.text.now c.in-Some.digits.now c.in-Some.behind.now c.in-Some.ensures c.requires c.in_default-natural.ensures
