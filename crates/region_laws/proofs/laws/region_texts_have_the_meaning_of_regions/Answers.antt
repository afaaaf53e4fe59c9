use Rattle.region_laws.proofs.Joined.{read_truly}
use Rattle.region_laws.proofs.laws.region_texts_have_the_meaning_of_regions.Goals as goal

pub returns : goal.returns
returns c unknown regions features literals p values named distinct switches are r within = read_truly named distinct switches unknown regions literals p values are r within
