use Rattle.congruence_leaf.proofs.DividedBy.{quotient_divisor, remainder_divisor}
use Rattle.congruence_leaf.proofs.functions.function_of.Goals as goal

pub returns-in-Div-clause-divisor : goal.returns-in-Div-clause-divisor
returns-in-Div-clause-divisor c = quotient_divisor c.args.p.now.right c.divisor.result c.quotient_by.result c.divisor.ensures c.quotient_by.ensures

pub returns-in-Rem-clause-divisor : goal.returns-in-Rem-clause-divisor
returns-in-Rem-clause-divisor c = remainder_divisor c.args.p.now.right c.divisor-in-Rem.result c.remainder_by.result c.divisor-in-Rem.ensures c.remainder_by.ensures
