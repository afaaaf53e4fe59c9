use Rattle.interval_leaf.proofs.ExactLaws.{intervals_exact}
use Rattle.interval_leaf.proofs.laws.intervals_are_exact.Goals as goal

pub returns : goal.returns
returns c = intervals_exact
