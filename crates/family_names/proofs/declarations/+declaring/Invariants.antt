use Rattle.std.proofs.Common.{length}
use Rattle.family_names.proofs.declarations.+declaring.Given as goal

abbrev pub decreases-declaring : goal.decreases-declaring
decreases-declaring l = length l.declarations.now
