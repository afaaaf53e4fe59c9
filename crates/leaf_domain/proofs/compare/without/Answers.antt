use Rattle.std.proofs.Common.{rules, FitsSigned, w64}
use Rattle.std.proofs.lemmas.Int.{to_z-of_z}
use Rattle.leaf_domain.proofs.RangeEquations.{new_is}
use Rattle.leaf_domain.proofs.compare.without.Goals as goal

pub returns : goal.returns
returns c =
    let f1 : FitsSigned w64 c.raised.result = search rules in
    let f2 : FitsSigned w64 c.lowered.result = search rules in
    let g1 : FitsSigned w64 c.args.a.low = search rules in
    let g2 : FitsSigned w64 c.args.a.high = search rules in
    let g3 = c.ranges.c in
    new_is c.args.a c.new.result _ _ _ _ (simp to_z-of_z at c.new.ensures) (simp to_z-of_z at c.raised.ensures) (simp to_z-of_z at c.lowered.ensures)
