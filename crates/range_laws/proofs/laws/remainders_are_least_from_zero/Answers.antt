use Rattle.range_laws.proofs.RemainderEnds.{remainder-ends, single-ends, remainders-least, some-not-least}
use Rattle.range_laws.proofs.laws.remainders_are_least_from_zero.Goals as goal

pub returns-clause-ends : goal.returns-clause-ends
returns-clause-ends c = remainder-ends

pub returns-clause-single : goal.returns-clause-single
returns-clause-single c = single-ends

pub returns-clause-least : goal.returns-clause-least
returns-clause-least c = remainders-least

pub returns-clause-more : goal.returns-clause-more
returns-clause-more c = some-not-least
