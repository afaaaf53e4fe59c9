use Rattle.std.proofs.Common.{◌≡◌, pos, ◌+ℤ◌, ◌-◌, w64, FitsSigned, to_z, of_z, arith, refl}
use Rattle.std.proofs.lemmas.Int.{ints, to_z-of_z}
use Rattle.feature_values.proofs.Stepping.{test_more}
use Rattle.feature_values.proofs.added_tests.add_tests_above.Goals as goal

pub above-preserved : goal.above-preserved
above-preserved c =
    let f : FitsSigned w64 (to_z w64 c.above.bound-bits +ℤ pos 1) = omega (arith, ints) in
    let e : to_z w64 (of_z w64 (to_z w64 c.above.bound-bits +ℤ pos 1)) ≡ to_z w64 c.above.bound-bits +ℤ pos 1 = to_z-of_z w64 (to_z w64 c.above.bound-bits +ℤ pos 1) f in
    record {
      made = test_more c.args.feature c.above.left (c.above.left - 1) (to_z w64 c.above.bound-bits) (to_z w64 (of_z w64 (to_z w64 c.above.bound-bits +ℤ pos 1))) c.above.made.items c.push.new.self.items _ _
          c.in_ok-terms.terms (omega arith) e c.in_ok-terms.ensures refl c.in_ok-push.ensures.items c.above.invariant.made;
      value = omega (arith, ints);
    }
