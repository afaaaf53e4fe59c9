use Rattle.cpp_conditions.proofs.Formed.{formed_name}
use Rattle.cpp_conditions.proofs.forming.name.Goals as goal

pub returns : goal.returns
returns c = formed_name c.args.names.now c.args.name.now c.in-Some.number c.in_ok-feature.field-0 c.in-Some.ensures c.in_ok-feature.ensures.exact
