use Rattle.std.proofs.Common.{length}
use Rattle.configuration_advice.proofs.costs.+any_in.Given as goal

abbrev pub decreases-any_in : goal.decreases-any_in
decreases-any_in g l = length l.trees.now
