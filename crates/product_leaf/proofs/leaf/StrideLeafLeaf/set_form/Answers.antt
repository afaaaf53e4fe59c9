use Rattle.std.proofs.Common.{◌≡◌, ◌∙◌, List, to_z, of_z, w64, ap, subst, sym, IfOk}
use Rattle.leaf_domain.specs.Leaves.{LeafValue}
use Rattle.strides.specs.declared.strided.Strided.{Strided}
use Rattle.strides.specs.Strides.{stride_at, IsReduced}
use Rattle.strides.specs.Strided.{strided_at, best_part}
use Rattle.product_leaf.specs.StrideLeaves.{form_stride, stride_with}
use Rattle.product_leaf.specs.Laws.FormStrides.{form_reduced}
use Rattle.product_leaf.specs.Laws.StrideLaws.{form_limited}
use Rattle.product_leaf.proofs.PartLemmas.{part_own, part_best}
use Rattle.product_leaf.proofs.Meanings.{int_back, best_all_own, best_parts_are}
use Rattle.product_leaf.proofs.leaf.StrideLeafLeaf.set_form.Goals as goal

pub form_stride-stride-requires-clause-own : goal.form_stride-stride-requires-clause-own
form_stride-stride-requires-clause-own c = best_all_own _ _ c.in-Some.ensures.best

pub best-requires-clause-residue : goal.best-requires-clause-residue
best-requires-clause-residue c = subst IsReduced (sym c.form_stride-stride.ensures.value) (form_reduced c.in-Some.parts.now c.args.f.now)

pub with-requires-clause-own : goal.with-requires-clause-own
with-requires-clause-own c =
    let u : to_z w64 (of_z w64 c.args.r.low) ≡ c.args.r.low = int_back c.args.r.low c.requires.r.low in
    let w : to_z w64 (of_z w64 c.args.r.high) ≡ c.args.r.high = int_back c.args.r.high c.requires.r.high in
    let e : c.best.result ≡ best_part (strided_at c.args.r.low c.args.r.high (form_stride c.in-Some.parts.now c.args.f.now)) =
    c.best.ensures ∙ ap (λ l. best_part (strided_at l (to_z w64 (of_z w64 c.args.r.high)) (stride_at c.form_stride-stride.result.modulus c.form_stride-stride.result.residue))) u ∙ ap (λ h. best_part (strided_at c.args.r.low h (stride_at c.form_stride-stride.result.modulus c.form_stride-stride.result.residue))) w
    ∙ ap (λ s. best_part (strided_at c.args.r.low c.args.r.high s)) c.form_stride-stride.ensures.value in
    part_own (strided_at c.args.r.low c.args.r.high (form_stride c.in-Some.parts.now c.args.f.now)) c.best.result e (form_limited c.in-Some.parts.now c.args.f.now c.args.r c.requires.r)

pub with-requires-clause-best : goal.with-requires-clause-best
with-requires-clause-best c =
    let u : to_z w64 (of_z w64 c.args.r.low) ≡ c.args.r.low = int_back c.args.r.low c.requires.r.low in
    let w : to_z w64 (of_z w64 c.args.r.high) ≡ c.args.r.high = int_back c.args.r.high c.requires.r.high in
    let e : c.best.result ≡ best_part (strided_at c.args.r.low c.args.r.high (form_stride c.in-Some.parts.now c.args.f.now)) =
    c.best.ensures ∙ ap (λ l. best_part (strided_at l (to_z w64 (of_z w64 c.args.r.high)) (stride_at c.form_stride-stride.result.modulus c.form_stride-stride.result.residue))) u ∙ ap (λ h. best_part (strided_at c.args.r.low h (stride_at c.form_stride-stride.result.modulus c.form_stride-stride.result.residue))) w
    ∙ ap (λ s. best_part (strided_at c.args.r.low c.args.r.high s)) c.form_stride-stride.ensures.value in
    part_best (strided_at c.args.r.low c.args.r.high (form_stride c.in-Some.parts.now c.args.f.now)) c.best.result e

pub returns-in-Some : goal.returns-in-Some
returns-in-Some c =
    let u : to_z w64 (of_z w64 c.args.r.low) ≡ c.args.r.low = int_back c.args.r.low c.requires.r.low in
    let w : to_z w64 (of_z w64 c.args.r.high) ≡ c.args.r.high = int_back c.args.r.high c.requires.r.high in
    let e : c.best.result ≡ best_part (strided_at c.args.r.low c.args.r.high (form_stride c.in-Some.parts.now c.args.f.now)) =
    c.best.ensures ∙ ap (λ l. best_part (strided_at l (to_z w64 (of_z w64 c.args.r.high)) (stride_at c.form_stride-stride.result.modulus c.form_stride-stride.result.residue))) u ∙ ap (λ h. best_part (strided_at c.args.r.low h (stride_at c.form_stride-stride.result.modulus c.form_stride-stride.result.residue))) w
    ∙ ap (λ s. best_part (strided_at c.args.r.low c.args.r.high s)) c.form_stride-stride.ensures.value in
    let P : LeafValue → Type 0 = λ u. IfOk c.with.result (λ leaf. leaf ≡ u) in
    let f = ap (λ (ps : List Strided). stride_with c.args.self.now c.args.x (strided_at c.args.r.low c.args.r.high (form_stride ps c.args.f.now))) (best_parts_are _ _ c.in-Some.ensures.best) in
    subst P f (c.with.ensures (strided_at c.args.r.low c.args.r.high (form_stride c.in-Some.parts.now c.args.f.now)) e)
