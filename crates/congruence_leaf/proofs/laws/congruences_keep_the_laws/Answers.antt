use Rattle.congruence_leaf.specs.Laws.{congruence_laws}
use Rattle.congruence_leaf.proofs.laws.congruences_keep_the_laws.Goals as goal

pub returns : goal.returns
returns c = congruence_laws
