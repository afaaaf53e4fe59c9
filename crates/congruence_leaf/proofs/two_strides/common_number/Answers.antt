use Rattle.std.proofs.Common.{◌<◌, arith}
use Rattle.congruence_leaf.proofs.Solving.{through_then, through_else}
use Rattle.congruence_leaf.proofs.two_strides.common_number.Goals as goal

pub returns-then-is_of-clause-value : goal.returns-then-is_of-clause-value
returns-then-is_of-clause-value c =
    let l : c.solution.result < c.args.t.modulus = c.solution.ensures.below in
    through_then c.args.s c.args.t c.apart.result c.solution.result c.stepped-n.result c.is_of.result c.apart.ensures.value c.solution.ensures.value c.stepped-n.ensures c.requires.first (omega (arith, c.requires.second.modulus)) c.is_of.ensures c.requires.some c.if-is_of.true

pub returns-else-is_of-clause-value : goal.returns-else-is_of-clause-value
returns-else-is_of-clause-value c =
    let l : c.solution.result < c.args.t.modulus = c.solution.ensures.below in
    through_else c.args.s c.args.t c.apart.result c.solution.result c.stepped-n.result c.is_of.result c.apart.ensures.value c.solution.ensures.value c.stepped-n.ensures c.requires.first (omega (arith, c.requires.second.modulus)) c.is_of.ensures c.if-is_of.false
