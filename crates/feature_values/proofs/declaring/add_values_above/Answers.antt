use Rattle.std.proofs.Common.{◌≡◌, pos, ◌+ℤ◌, ◌-◌, w64, FitsSigned, to_z, of_z, arith}
use Rattle.std.proofs.lemmas.Int.{ints, to_z-of_z}
use Rattle.feature_values.proofs.Stepping.{value_more}
use Rattle.feature_values.proofs.declaring.add_values_above.Goals as goal

pub above-preserved : goal.above-preserved
above-preserved c =
    let f : FitsSigned w64 (to_z w64 c.above.value-bits +ℤ pos 1) = omega (arith, ints) in
    let e : to_z w64 (of_z w64 (to_z w64 c.above.value-bits +ℤ pos 1)) ≡ to_z w64 c.above.value-bits +ℤ pos 1 = to_z-of_z w64 (to_z w64 c.above.value-bits +ℤ pos 1) f in
    record {
      made = value_more c.above.number c.args.target c.above.left (c.above.left - 1) (to_z w64 c.above.value-bits) (to_z w64 (of_z w64 (to_z w64 c.above.value-bits +ℤ pos 1))) c.above.made.items c.push.new.self.items _
          c.in_ok-guards.guards (omega arith) e c.in_ok-guards.ensures c.in_ok-push.ensures.items c.above.invariant.made;
      numbers = omega arith;
      value = omega (arith, ints);
    }
