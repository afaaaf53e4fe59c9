use Rattle.sharp_leaf.proofs.StridesWithin.{congruences_below}
use Rattle.sharp_leaf.proofs.laws.strides_are_below_intervals.Goals as goal

pub returns : goal.returns
returns c = congruences_below
