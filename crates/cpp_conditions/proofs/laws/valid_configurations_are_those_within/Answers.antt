use Rattle.cpp_conditions.proofs.Within.{valid_parts, valid_from}
use Rattle.cpp_conditions.proofs.laws.valid_configurations_are_those_within.Goals as goal

pub returns : goal.returns
returns c model values = (valid_parts model values, λ h. valid_from model values h.0 h.1)
