use Rattle.range_laws.proofs.CutEnds.{cut-exact, ends-met, cut-least}
use Rattle.range_laws.proofs.laws.cut_is_exact.Goals as goal

pub returns-clause-numbers : goal.returns-clause-numbers
returns-clause-numbers c = cut-exact

pub returns-clause-ends : goal.returns-clause-ends
returns-clause-ends c = ends-met

pub returns-clause-least : goal.returns-clause-least
returns-clause-least c = cut-least
