use Rattle.std.proofs.Common.{arith, w64, FitsSigned}
use Rattle.std.proofs.lemmas.Int.{ints, to_z-of_z}
use Rattle.linear_atoms.proofs.Truths.{made_down, less_one}
use Rattle.linear_atoms.proofs.normal.literal.Goals as goal

pub returns-in_ok-terms-2 : goal.returns-in_ok-terms-2
returns-in_ok-terms-2 c =
    let f : FitsSigned w64 c.args.constant = c.ranges.constant in
    let g : FitsSigned w64 c.args.divisor = c.ranges.divisor in
    let r = simp to_z-of_z at c.rounded_up-rounded.ensures.value in
    made_down c.args.first c.args.divisor c.args.constant _ _ c.args.terms.now c.in_ok-terms-2.terms (rw (to_z-of_z w64 c.args.first c.ranges.first) at c.if-first-gt0.false) c.in_ok-terms-2.ensures (omega (arith, ints))
    (less_one c.rounded_up-rounded.result _ r c.rounded_up-rounded.ensures.low c.rounded_up-rounded.ensures.high)
