use Rattle.certificate_format.proofs.Digits.{no_cut_before, no_signed_before}
use Rattle.std.specs.Fmt.{signed_decimal}
use Rattle.certificate_format.proofs.numbers.integer_before.Goals as goal

pub returns-in_default : goal.returns-in_default
returns-in_default c z rest h e = no_cut_before c.args.separator.now c.args.text.now (signed_decimal z) rest c.in_default.ensures e

pub returns-in_default-integer : goal.returns-in_default-integer
returns-in_default-integer c =
    no_signed_before c.args.separator.now c.args.text.now c.in-Some.number.now c.in-Some.behind.now c.in-Some.ensures c.requires c.in_default-integer.ensures
