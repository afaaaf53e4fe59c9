use Rattle.std.proofs.Common.{arith}
use Rattle.std.proofs.lemmas.Int.{ints}
use Rattle.octagon_matrix.proofs.Terms.{greatest_value-ends, least_value-ends, type_bound-apart}
use Rattle.octagon_matrix.proofs.type_bound.Goals as goal

pub overflow_sub-result : goal.overflow_sub-result
overflow_sub-result c = omega (arith, ints, c.greatest_value.ensures, c.least_value.ensures, greatest_value-ends c.args.a, least_value-ends c.args.b)

pub returns : goal.returns
returns c = omega (arith, ints, c.greatest_value.ensures, c.least_value.ensures, greatest_value-ends c.args.a, least_value-ends c.args.b, type_bound-apart c.args.a c.args.b c.requires)
