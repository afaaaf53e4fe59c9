use Rattle.cpp_conditions.proofs.Once.{one_reading}
use Rattle.cpp_conditions.proofs.laws.bytes_have_one_reading.Goals as goal

pub returns : goal.returns
returns c = one_reading
