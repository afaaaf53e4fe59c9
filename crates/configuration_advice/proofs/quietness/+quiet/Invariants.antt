use Rattle.std.proofs.Common.{length}
use Rattle.configuration_advice.proofs.quietness.+quiet.Given as goal

abbrev pub decreases-quiet : goal.decreases-quiet
decreases-quiet l = length l.trees.now
