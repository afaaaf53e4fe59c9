use Rattle.product_leaf.proofs.ExactLaws.{join_least}
use Rattle.product_leaf.proofs.laws.stride_join_is_least.Goals as goal

pub returns : goal.returns
returns c = join_least
