use Rattle.std.proofs.Common.{◌-ℤ◌, to_z, of_z, w64, arith}
use Rattle.std.specs.Int.{w128}
use Rattle.std.proofs.lemmas.Int.{ints}
use Rattle.strides.proofs.WideLaws.{first_then, first_else}
use Rattle.strides.proofs.stride.WideStride.first_from.Goals as goal

pub returns-then-self-eq0 : goal.returns-then-self-eq0
returns-then-self-eq0 c =
    first_then c.args.low c.args.self.residue c.max.result
    (to_z w128 (of_z w128 (to_z w64 (of_z w64 c.args.low)))) (to_z w128 (of_z w128 c.args.self.residue)) _ c.args.self.modulus
    c.max.ensures.value (omega (arith, ints)) (omega (arith, ints)) c.if-self-eq0.true (omega (arith, ints))

pub returns-else-self-eq0 : goal.returns-else-self-eq0
returns-else-self-eq0 c =
    first_else c.args.low c.args.self.residue c.rem_euclid.result
    (to_z w128 (of_z w128 (to_z w128 (of_z w128 c.args.self.residue) -ℤ to_z w128 (of_z w128 (to_z w64 (of_z w64 c.args.low))))))
    (to_z w128 c.args.self.modulus) _ c.args.self.modulus
    c.rem_euclid.ensures.value (omega (arith, ints)) (omega (arith, ints)) (omega arith) (omega (arith, ints))
