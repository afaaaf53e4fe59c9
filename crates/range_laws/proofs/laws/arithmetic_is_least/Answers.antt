use Rattle.range_laws.proofs.ArithmeticEnds.{ends-results, arithmetic-least, sums-exact}
use Rattle.range_laws.proofs.laws.arithmetic_is_least.Goals as goal

pub returns-clause-ends : goal.returns-clause-ends
returns-clause-ends c = ends-results

pub returns-clause-least : goal.returns-clause-least
returns-clause-least c = arithmetic-least

pub returns-clause-sums : goal.returns-clause-sums
returns-clause-sums c = sums-exact
