use Rattle.std.proofs.lemmas.Nat.{mul-le}
use Rattle.plain_analysis.proofs.steps.steps_of_all.Goals as goal

pub returns-clause-small : goal.returns-clause-small
returns-clause-small c = rw (c.from.ensures, c.from-2.ensures) (mul-le c.args.bounds c.args.steps 16384 65 c.requires.bounds c.requires.steps)
