use Rattle.leaf_domain.proofs.RangeEquations.{quotient_back}
use Rattle.congruence_leaf.proofs.remainders.quotient.Goals as goal

pub returns-clause-value : goal.returns-clause-value
returns-clause-value c = quotient_back c.args.n c.args.m c.requires.n c.ranges.m
