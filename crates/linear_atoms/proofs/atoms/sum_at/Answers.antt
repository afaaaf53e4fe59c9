use Rattle.std.proofs.Common.{◌+ℤ◌, pos, get_or, w64, FitsSigned, rules, to_z}
use Rattle.std.specs.Int.{w128}
use Rattle.std.proofs.lemmas.Int.{to_z-of_z}
use Rattle.linear_atoms.proofs.Readings.{value_fits, value_size, sum_split, summing_step, summing_fits, summing_more}
use Rattle.linear_atoms.proofs.atoms.sum_at.Goals as goal

pub overflow_add-sum : goal.overflow_add-sum
overflow_add-sum c =
    let f : FitsSigned w64 c.in-Some.coefficient = c.in-Some.ensures.fits in
    let g : FitsSigned w64 (get_or c.args.values.now c.in-Some.number (pos 0)) = value_fits c.args.values.now c.in-Some.number c.requires.values in
    let h : FitsSigned w128 c.product-sum.result = search rules in
    let p = simp to_z-of_z at c.product-sum.ensures in
    let s = summing_step _ _ _ _ _ _ c.in-Some.number c.in-Some.coefficient _ c.product-sum.result c.terms.invariant c.in-Some.ensures.parts p (value_size c.args.values.now c.in-Some.number c.requires.values) in
    rw (to_z-of_z w128 c.product-sum.result h) (summing_fits _ _ _ c.product-sum.result _ _ c.terms.invariant s)

pub terms-preserved : goal.terms-preserved
terms-preserved c =
    let f : FitsSigned w64 c.in-Some.coefficient = c.in-Some.ensures.fits in
    let g : FitsSigned w64 (get_or c.args.values.now c.in-Some.number (pos 0)) = value_fits c.args.values.now c.in-Some.number c.requires.values in
    let h : FitsSigned w128 c.product-sum.result = search rules in
    let p = simp to_z-of_z at c.product-sum.ensures in
    let s = summing_step _ _ _ _ _ _ c.in-Some.number c.in-Some.coefficient _ c.product-sum.result c.terms.invariant c.in-Some.ensures.parts p (value_size c.args.values.now c.in-Some.number c.requires.values) in
    let t : FitsSigned w128 (to_z w128 c.terms.sum-bits +ℤ c.product-sum.result) = summing_fits _ _ _ c.product-sum.result _ _ c.terms.invariant s in
    summing_more _ _ (to_z w128 c.terms.sum-bits) _ c.product-sum.result _ _ _ c.in-Some.number c.in-Some.coefficient c.terms.invariant c.in-Some.ensures.parts
    (sum_split c.args.values.now _ _ c.in-Some.number c.in-Some.coefficient c.product-sum.result c.in-Some.ensures.parts p) s
    (rw (to_z-of_z w128 c.product-sum.result h) (to_z-of_z w128 (to_z w128 c.terms.sum-bits +ℤ c.product-sum.result) t))
