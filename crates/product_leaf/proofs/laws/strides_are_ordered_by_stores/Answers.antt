use Rattle.product_leaf.proofs.ExactLaws.{ordered_by_stores}
use Rattle.product_leaf.proofs.laws.strides_are_ordered_by_stores.Goals as goal

pub returns : goal.returns
returns c = ordered_by_stores
