use Rattle.fam_outer.proofs.Rising.{rising}
use Rattle.fam_outer.proofs.places.places_rise.Goals as goal

pub returns : goal.returns
returns c = rising
