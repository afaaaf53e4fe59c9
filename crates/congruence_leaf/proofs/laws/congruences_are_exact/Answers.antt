use Rattle.congruence_leaf.proofs.Exactness.{congruences_exact}
use Rattle.congruence_leaf.proofs.laws.congruences_are_exact.Goals as goal

pub returns : goal.returns
returns c = congruences_exact
