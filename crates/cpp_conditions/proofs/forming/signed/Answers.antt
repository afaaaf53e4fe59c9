use Rattle.cpp_conditions.proofs.Formed.{formed_negative}
use Rattle.cpp_conditions.proofs.forming.signed.Goals as goal

pub returns-in-Negative : goal.returns-in-Negative
returns-in-Negative c = formed_negative c.args.names.now c.args.op c.args.operand c.scale.result c.requires c.in-Negative.is c.scale.ensures.exact
