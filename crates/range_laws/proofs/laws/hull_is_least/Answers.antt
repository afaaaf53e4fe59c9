use Rattle.range_laws.proofs.Hulls.{hull-least, cover-least}
use Rattle.range_laws.proofs.laws.hull_is_least.Goals as goal

pub returns-clause-hull : goal.returns-clause-hull
returns-clause-hull c = hull-least

pub returns-clause-cover : goal.returns-clause-cover
returns-clause-cover c = cover-least
