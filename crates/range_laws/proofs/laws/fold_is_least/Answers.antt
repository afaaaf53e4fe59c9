use Rattle.range_laws.proofs.FoldedEnds.{fold-ends, fold-least, fold-exact}
use Rattle.range_laws.proofs.laws.fold_is_least.Goals as goal

pub returns-clause-ends : goal.returns-clause-ends
returns-clause-ends c = fold-ends

pub returns-clause-least : goal.returns-clause-least
returns-clause-least c = fold-least

pub returns-clause-numbers : goal.returns-clause-numbers
returns-clause-numbers c = fold-exact
