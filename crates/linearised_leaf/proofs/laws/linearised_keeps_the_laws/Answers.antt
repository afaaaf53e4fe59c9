use Rattle.linearised_leaf.proofs.LinearisedLaws.{linearised_laws}
use Rattle.linearised_leaf.proofs.laws.linearised_keeps_the_laws.Goals as goal

pub returns : goal.returns
returns g c = linearised_laws g.L.Leaf.meaning g.met.L.Leaf.laws
