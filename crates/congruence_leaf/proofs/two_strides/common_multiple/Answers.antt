use Rattle.std.proofs.Common.{◌≤◌, arith}
use Rattle.congruence_leaf.proofs.Solving.{divisor_below, divisor_some, multiple_found}
use Rattle.congruence_leaf.proofs.two_strides.common_multiple.Goals as goal

pub overflow_cast-divisor : goal.overflow_cast-divisor
overflow_cast-divisor c =
    let p : c.greatest_common_divisor-divisor.result ≤ c.args.n = divisor_below c.args.m c.args.n _ c.requires.some c.greatest_common_divisor-divisor.ensures in
    omega (arith, c.requires.n)

pub nonzero_div-result : goal.nonzero_div-result
nonzero_div-result c = divisor_some c.args.m c.args.n _ c.requires.some c.greatest_common_divisor-divisor.ensures

pub returns : goal.returns
returns c = multiple_found c.args.m c.args.n _ c.greatest_common_divisor-divisor.ensures
