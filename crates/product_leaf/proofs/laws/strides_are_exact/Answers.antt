use Rattle.product_leaf.proofs.ExactLaws.{strides_exact}
use Rattle.product_leaf.proofs.laws.strides_are_exact.Goals as goal

pub returns : goal.returns
returns c = strides_exact
