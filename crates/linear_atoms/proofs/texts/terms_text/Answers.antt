use Rattle.std.proofs.Common.{◌∙◌, ◌++◌, ap, w64, FitsSigned}
use Rattle.std.proofs.lemmas.Int.{to_z-of_z}
use Rattle.linear_atoms.proofs.Writings.{name_is, first_below, written_more}
use Rattle.linear_atoms.proofs.texts.terms_text.Goals as goal

pub terms-preserved : goal.terms-preserved
terms-preserved c =
    let fs = c.args.features.now in
    let n = c.in-Some.number in
    let made = c.terms.text.items in
    let f : FitsSigned w64 c.in-Some.coefficient = c.in-Some.ensures.fits in
    let s = simp to_z-of_z at c.sign_text.ensures in
    let g = simp to_z-of_z at c.in_ok-push_sized.ensures in
    let below = first_below fs c.terms.is_first made _ _ _ n c.in-Some.coefficient c.terms.invariant c.in-Some.ensures.parts in
    written_more fs c.terms.is_first made _ _ _ n c.in-Some.coefficient c.terms.invariant c.in-Some.ensures.parts _ _ c.bytes.result.now
    (c.in_ok-extend_from_slice.ensures.items ∙ ap (λ x. made ++ x) (c.as_bytes.ensures.value ∙ s)) g
    (c.bytes.ensures ∙ name_is fs n c.index-features-number.result below c.index-features-number.is)
