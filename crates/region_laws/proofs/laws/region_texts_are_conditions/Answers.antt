use Rattle.region_laws.proofs.Joined.{region_spelled}
use Rattle.region_laws.proofs.laws.region_texts_are_conditions.Goals as goal

pub returns : goal.returns
returns c regions features literals named distinct switches are = region_spelled named distinct switches regions literals are
