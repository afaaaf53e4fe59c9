use Rattle.std.proofs.Common.{map, ◌+ℤ◌, ◌*ℤ◌, ◌∙◌, ap, w64, FitsSigned, rules, to_z}
use Rattle.std.specs.Int.{w128}
use Rattle.std.proofs.lemmas.Int.{to_z-of_z}
use Rattle.linear_atoms.proofs.Readings.{first_named, summing_step, summing_fits, summing_more}
use Rattle.linear_atoms.proofs.Extremes.{extreme_is, extreme_size, extreme_split}
use Rattle.linear_atoms.proofs.ranges.extreme_sum.Goals as goal

pub overflow_add-sum : goal.overflow_add-sum
overflow_add-sum g c =
    let fs = map g.R.Ranged.feature c.args.ranges.now in
    let n = c.in-Some.number in
    let f : FitsSigned w64 c.in-Some.coefficient = c.in-Some.ensures.fits in
    let e : FitsSigned w64 c.extreme_value-value.result = search rules in
    let h : FitsSigned w128 c.product-sum.result = search rules in
    let v = (simp to_z-of_z at c.extreme_value-value.ensures) ∙ extreme_is g.R.Ranged.feature c.args.is_greatest c.in-Some.coefficient c.args.ranges.now n c.index-ranges-number.result (first_named _ _ _ _ _ _ n c.in-Some.coefficient c.terms.invariant c.in-Some.ensures.parts) c.index-ranges-number.is in
    let p = (simp to_z-of_z at c.product-sum.ensures) ∙ ap (λ x. c.in-Some.coefficient *ℤ x) v in
    let s = summing_step _ _ _ _ _ _ n c.in-Some.coefficient _ c.product-sum.result c.terms.invariant c.in-Some.ensures.parts p (extreme_size c.args.is_greatest c.in-Some.coefficient fs n c.requires.ranges) in
    rw (to_z-of_z w128 c.product-sum.result h) (summing_fits _ _ _ c.product-sum.result _ _ c.terms.invariant s)

pub terms-preserved : goal.terms-preserved
terms-preserved g c =
    let fs = map g.R.Ranged.feature c.args.ranges.now in
    let n = c.in-Some.number in
    let f : FitsSigned w64 c.in-Some.coefficient = c.in-Some.ensures.fits in
    let e : FitsSigned w64 c.extreme_value-value.result = search rules in
    let h : FitsSigned w128 c.product-sum.result = search rules in
    let v = (simp to_z-of_z at c.extreme_value-value.ensures) ∙ extreme_is g.R.Ranged.feature c.args.is_greatest c.in-Some.coefficient c.args.ranges.now n c.index-ranges-number.result (first_named _ _ _ _ _ _ n c.in-Some.coefficient c.terms.invariant c.in-Some.ensures.parts) c.index-ranges-number.is in
    let p = (simp to_z-of_z at c.product-sum.ensures) ∙ ap (λ x. c.in-Some.coefficient *ℤ x) v in
    let s = summing_step _ _ _ _ _ _ n c.in-Some.coefficient _ c.product-sum.result c.terms.invariant c.in-Some.ensures.parts p (extreme_size c.args.is_greatest c.in-Some.coefficient fs n c.requires.ranges) in
    let t : FitsSigned w128 (to_z w128 c.terms.sum-bits +ℤ c.product-sum.result) = summing_fits _ _ _ c.product-sum.result _ _ c.terms.invariant s in
    summing_more _ _ (to_z w128 c.terms.sum-bits) _ c.product-sum.result _ _ _ n c.in-Some.coefficient c.terms.invariant c.in-Some.ensures.parts
    (extreme_split c.args.is_greatest fs _ _ n c.in-Some.coefficient c.product-sum.result c.in-Some.ensures.parts p) s
    (rw (to_z-of_z w128 c.product-sum.result h) (to_z-of_z w128 (to_z w128 c.terms.sum-bits +ℤ c.product-sum.result) t))
