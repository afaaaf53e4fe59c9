use Rattle.region_laws.proofs.Joined.{refused_by_size}
use Rattle.region_laws.proofs.laws.region_texts_are_refused_by_size.Goals as goal

pub returns : goal.returns
returns c unknown regions features literals fault named distinct switches are r = refused_by_size named distinct switches unknown regions literals fault are r
