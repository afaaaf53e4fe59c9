use Rattle.interval_leaf.proofs.ExactLaws.{join_least}
use Rattle.interval_leaf.proofs.laws.interval_join_is_least.Goals as goal

pub returns : goal.returns
returns c = join_least
