use Rattle.std.proofs.Common.{sym, ◌∙◌, w64, FitsSigned, rules}
use Rattle.std.specs.Int.{w128}
use Rattle.std.proofs.lemmas.Int.{to_z-of_z}
use Rattle.linear_terms.proofs.Merges.{merged_more, merged_past}
use Rattle.linear_terms.proofs.merging.merged.Goals as goal

pub returns-in_default-within : goal.returns-in_default-within
returns-in_default-within c =
    let f : FitsSigned w128 c.in-Some.sum = search rules in
    let k = simp (to_z-of_z w128 c.in-Some.sum f) at c.within.ensures in
    merged_past c.args.limit _ _ _ c.in-Some.after_ms.now c.in-Some.after_ns.now _ c.in-Some.number c.in-Some.sum c.terms.invariant c.in-Some.ensures.first (sym c.in_default-within.is ∙ k)

pub terms-preserved : goal.terms-preserved
terms-preserved c =
    let f : FitsSigned w128 c.in-Some.sum = search rules in
    let g : FitsSigned w64 c.in-Some-within.coefficient = search rules in
    let k = simp (to_z-of_z w128 c.in-Some.sum f) at c.within.ensures in
    let p = simp (to_z-of_z w64 c.in-Some-within.coefficient g) at c.in_ok-put.ensures in
    merged_more c.args.limit _ _ _ _ _ _ _ c.in-Some.number c.in-Some.sum c.in-Some-within.coefficient c.terms.invariant c.in-Some.ensures.first (sym c.in-Some-within.is ∙ k) p c.in-Some.ensures.left c.in-Some.ensures.right
