use Rattle.cpp_conditions.proofs.Collected.{few_not_more}
use Rattle.cpp_conditions.proofs.laws.few_atoms_are_not_more.Goals as goal

pub returns : goal.returns
returns c = few_not_more
