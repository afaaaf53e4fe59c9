use Rattle.std.proofs.Common.{sym, ◌∙◌}
use Rattle.certificate_format.proofs.Digits.{no_integer}
use Rattle.certificate_format.proofs.numbers.integer.Goals as goal

pub returns-in_default : goal.returns-in_default
returns-in_default c z h e = no_integer z h (sym c.in_default.ensures ∙ e)
