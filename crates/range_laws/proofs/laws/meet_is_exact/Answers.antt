use Rattle.range_laws.proofs.Hulls.{meet-exact}
use Rattle.range_laws.proofs.laws.meet_is_exact.Goals as goal

pub returns : goal.returns
returns c = meet-exact
