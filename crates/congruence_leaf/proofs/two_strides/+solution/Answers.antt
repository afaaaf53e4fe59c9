use Rattle.std.proofs.Common.{arith}
use Rattle.congruence_leaf.proofs.Solving.{solved}
use Rattle.congruence_leaf.proofs.two_strides.+solution.Goals as goal

pub returns-clause-value : goal.returns-clause-value
returns-clause-value t c = solved c.args.a c.args.b c.args.m (omega arith) c.solution-times.result c.solution-times.ensures.value
