use Rattle.std.proofs.Common.{to_z, of_z, arith}
use Rattle.std.specs.Int.{w128}
use Rattle.std.proofs.lemmas.Int.{ints}
use Rattle.strides.proofs.WideLaws.{of_then, of_else}
use Rattle.strides.proofs.stride.WideStride.of.Goals as goal

pub returns-then-modulus-eq0 : goal.returns-then-modulus-eq0
returns-then-modulus-eq0 c = of_then c.args.number _ c.args.modulus c.if-modulus-eq0.true (omega (arith, ints))

pub returns-else-modulus-eq0 : goal.returns-else-modulus-eq0
returns-else-modulus-eq0 c =
    of_else c.args.number c.rem_euclid-residue.result (to_z w128 (of_z w128 c.args.number)) (to_z w128 c.args.modulus) _ c.args.modulus
    c.rem_euclid-residue.ensures.value (omega (arith, ints)) (omega (arith, ints)) (omega arith) (omega (arith, ints))
