use Rattle.sharp_leaf.proofs.BelowStrides.{sharp_below_strides}
use Rattle.sharp_leaf.proofs.laws.sharp_is_below_strides.Goals as goal

pub returns : goal.returns
returns c = sharp_below_strides
