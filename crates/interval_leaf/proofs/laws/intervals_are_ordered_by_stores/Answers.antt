use Rattle.interval_leaf.proofs.ExactLaws.{ordered_by_stores}
use Rattle.interval_leaf.proofs.laws.intervals_are_ordered_by_stores.Goals as goal

pub returns : goal.returns
returns c = ordered_by_stores
