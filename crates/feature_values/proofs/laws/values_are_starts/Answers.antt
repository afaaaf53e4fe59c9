use Rattle.feature_values.proofs.Starting.{values_start}
use Rattle.feature_values.proofs.laws.values_are_starts.Goals as goal

pub returns : goal.returns
returns c = values_start
