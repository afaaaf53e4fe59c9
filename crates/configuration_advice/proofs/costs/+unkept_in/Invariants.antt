use Rattle.std.proofs.Common.{length}
use Rattle.configuration_advice.proofs.costs.+unkept_in.Given as goal

abbrev pub decreases-unkept_in : goal.decreases-unkept_in
decreases-unkept_in g l = length l.kept.now
