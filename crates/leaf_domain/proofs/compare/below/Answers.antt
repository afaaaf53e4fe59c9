use Rattle.std.proofs.Common.{rules, pos, ◌-ℤ◌, FitsSigned, w64, refl}
use Rattle.std.proofs.lemmas.Int.{to_z-of_z}
use Rattle.leaf_domain.proofs.RangeEquations.{new_is}
use Rattle.leaf_domain.proofs.compare.below.Goals as goal

pub returns : goal.returns
returns c =
    let f1 : FitsSigned w64 c.min.result = search rules in
    let f2 = c.ranges.h in
    let f3 : FitsSigned w64 (c.args.h -ℤ pos 1) = search rules in
    let g1 : FitsSigned w64 c.args.a.low = search rules in
    let g2 : FitsSigned w64 c.args.a.high = search rules in
    new_is c.args.a c.new.result _ _ _ _ (simp to_z-of_z at c.new.ensures) refl (simp to_z-of_z at c.min.ensures.value)
