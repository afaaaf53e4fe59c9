use Rattle.cpp_conditions.proofs.Compared.{opposite_made}
use Rattle.cpp_conditions.proofs.comparing.opposite.Goals as goal

pub returns : goal.returns
returns c = opposite_made c.args.names.now c.args.form c.in_ok-made.made c.requires c.in_ok-made.ensures.exact.0
