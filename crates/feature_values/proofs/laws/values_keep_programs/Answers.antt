use Rattle.feature_values.proofs.Keeping.{programs_kept, conditions_added}
use Rattle.feature_values.proofs.laws.values_keep_programs.Goals as goal

pub returns-clause-program : goal.returns-clause-program
returns-clause-program c = programs_kept

pub returns-clause-conditions : goal.returns-clause-conditions
returns-clause-conditions c = conditions_added
