use Rattle.feature_values.proofs.Enough.{program_kept}
use Rattle.feature_values.proofs.laws.conditions_are_enough.Goals as goal

pub returns : goal.returns
returns c = program_kept
