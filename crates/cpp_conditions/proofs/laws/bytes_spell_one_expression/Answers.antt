use Rattle.cpp_conditions.proofs.Once.{spelled_once}
use Rattle.cpp_conditions.proofs.laws.bytes_spell_one_expression.Goals as goal

pub returns : goal.returns
returns c = spelled_once
