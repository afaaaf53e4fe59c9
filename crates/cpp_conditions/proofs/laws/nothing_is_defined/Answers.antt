use Rattle.cpp_conditions.proofs.Once.{nothing_defined}
use Rattle.cpp_conditions.proofs.laws.nothing_is_defined.Goals as goal

pub returns : goal.returns
returns c = nothing_defined
