use Rattle.cpp_conditions.proofs.Meanings.{cond_truth}
use Rattle.cpp_conditions.proofs.laws.conditions_have_values.Goals as goal

pub returns : goal.returns
returns c fs values e within l = cond_truth fs values within e l
