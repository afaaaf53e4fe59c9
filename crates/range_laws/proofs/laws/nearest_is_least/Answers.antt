use Rattle.range_laws.proofs.NearestSteps.{nearest-least, nearest-one}
use Rattle.range_laws.proofs.laws.nearest_is_least.Goals as goal

pub returns-clause-least : goal.returns-clause-least
returns-clause-least c = nearest-least

pub returns-clause-one : goal.returns-clause-one
returns-clause-one c = nearest-one
