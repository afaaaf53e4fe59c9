use Rattle.std.proofs.Common.{length}
use Rattle.feature_model.proofs.constraints.+add_constraints.Given as goal

abbrev pub decreases-add_constraints : goal.decreases-add_constraints
decreases-add_constraints l = length l.texts.now
