use Rattle.feature_values.proofs.Naming.{uses_are}
use Rattle.feature_values.proofs.laws.uses_stand.Goals as goal

pub returns : goal.returns
returns c = uses_are
