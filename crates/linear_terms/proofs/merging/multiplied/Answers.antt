use Rattle.std.proofs.Common.{sym, ◌∙◌, ap, w64, FitsSigned, rules}
use Rattle.std.specs.Int.{w128}
use Rattle.std.proofs.lemmas.Int.{to_z-of_z}
use Rattle.linear_terms.specs.Terms.{number_within}
use Rattle.linear_terms.proofs.Merges.{multiplied_more, multiplied_past}
use Rattle.linear_terms.proofs.merging.multiplied.Goals as goal

pub returns-in_default-within : goal.returns-in_default-within
returns-in_default-within c =
    let f : FitsSigned w64 c.in-Some.factor = c.in-Some.ensures.fits in
    let h : FitsSigned w64 c.args.by = c.ranges.by in
    let w : FitsSigned w128 c.product.result = search rules in
    let p = simp (to_z-of_z w64 c.in-Some.factor f, to_z-of_z w64 c.args.by h) at c.product.ensures in
    let k = simp (to_z-of_z w128 c.product.result w) at c.within.ensures in
    let i = simp (to_z-of_z w64 c.args.by h) at c.terms.invariant in
    multiplied_past c.args.limit c.args.by _ _ _ _ c.in-Some.number c.in-Some.factor i c.in-Some.ensures.parts (sym c.in_default-within.is ∙ k ∙ ap (number_within c.args.limit) p)

pub terms-preserved : goal.terms-preserved
terms-preserved c =
    let f : FitsSigned w64 c.in-Some.factor = c.in-Some.ensures.fits in
    let h : FitsSigned w64 c.args.by = c.ranges.by in
    let g : FitsSigned w64 c.in-Some-within.coefficient = search rules in
    let w : FitsSigned w128 c.product.result = search rules in
    let m = simp (to_z-of_z w64 c.in-Some.factor f, to_z-of_z w64 c.args.by h) at c.product.ensures in
    let k = simp (to_z-of_z w128 c.product.result w) at c.within.ensures in
    let i = simp (to_z-of_z w64 c.args.by h) at c.terms.invariant in
    let p = simp (to_z-of_z w64 c.in-Some-within.coefficient g) at c.in_ok-put.ensures in
    rw (to_z-of_z w64 c.args.by h)
    (multiplied_more c.args.limit c.args.by _ _ _ _ _ c.in-Some.number c.in-Some.factor c.in-Some-within.coefficient i c.in-Some.ensures.parts (sym c.in-Some-within.is ∙ k ∙ ap (number_within c.args.limit) m) p)
