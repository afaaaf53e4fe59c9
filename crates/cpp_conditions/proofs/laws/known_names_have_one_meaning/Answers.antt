use Rattle.cpp_conditions.proofs.Once.{one_meaning}
use Rattle.cpp_conditions.proofs.laws.known_names_have_one_meaning.Goals as goal

pub returns : goal.returns
returns c = one_meaning
