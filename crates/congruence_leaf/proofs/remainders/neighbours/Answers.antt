use Rattle.std.proofs.Common.{to_z, of_z, w64, arith}
use Rattle.std.proofs.lemmas.Int.{ints}
use Rattle.strides.proofs.WideLaws.{of_else}
use Rattle.congruence_leaf.proofs.remainders.neighbours.Goals as goal

pub returns : goal.returns
returns c =
    of_else c.args.low c.rem_euclid.result _ _ (to_z w64 (of_z w64 c.rem_euclid.result)) 2
    c.rem_euclid.ensures.value (omega (arith, ints)) (omega (arith, ints)) (omega arith) (omega (arith, ints))
