use Rattle.sharp_leaf.proofs.BelowParts.{sharp_below}
use Rattle.sharp_leaf.proofs.laws.sharp_is_below_its_parts.Goals as goal

pub returns : goal.returns
returns c = sharp_below
