use Rattle.cpp_conditions.proofs.Total.{some_reading}
use Rattle.cpp_conditions.proofs.laws.bytes_have_a_reading.Goals as goal

pub returns : goal.returns
returns c = some_reading
