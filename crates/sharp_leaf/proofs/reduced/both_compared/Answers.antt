use Rattle.std.proofs.Common.{◌≡◌, IfOk, ap, sym, subst, ◌∙◌}
use Rattle.std.proofs.lemmas.Result.{IfOk-weaker}
use Rattle.leaf_domain.specs.Forms.{IsForm}
use Rattle.leaf_domain.specs.Leaves.{LeafValue}
use Rattle.octagon_leaf.specs.Laws.{octagon_laws}
use Rattle.congruence_leaf.specs.Laws.{congruence_laws as stride_laws}
use Rattle.sharp_leaf.proofs.Answered.{exchanged_same, both_answered}
use Rattle.sharp_leaf.proofs.reduced.both_compared.Goals as goal

pub meet_form-requires-2 : goal.meet_form-requires-2
meet_form-requires-2 c = subst (λ n. IsForm n c.args.f.now) c.requires.same c.requires.form

pub exchanged-requires : goal.exchanged-requires
exchanged-requires c =
    let i = octagon_laws.meet_form_answers c.args.first.now c.args.f.now c.args.op c.variables.ensures.valid c.requires.form in
    let j = stride_laws.meet_form_answers c.args.second.now c.args.f.now c.args.op c.variables-2.ensures.valid (subst (λ n. IsForm n c.args.f.now) c.requires.same c.requires.form) in
    ap (λ (u : LeafValue). u.variables) c.in_ok-octagon.ensures ∙ i.same ∙ c.requires.same ∙ sym j.same ∙ sym (ap (λ (u : LeafValue). u.variables) c.in_ok-strides.ensures)

pub returns-clause-value : goal.returns-clause-value
returns-clause-value c =
    let P : LeafValue → Type 0 = λ u. IfOk c.exchanged.result (λ leaf. leaf ≡ u) in
    subst P (exchanged_same _ _ _ _ c.in_ok-octagon.ensures c.in_ok-strides.ensures) c.exchanged.ensures

pub returns-clause-same : goal.returns-clause-same
returns-clause-same c =
    let i = octagon_laws.meet_form_answers c.args.first.now c.args.f.now c.args.op c.variables.ensures.valid c.requires.form in
    let j = stride_laws.meet_form_answers c.args.second.now c.args.f.now c.args.op c.variables-2.ensures.valid (subst (λ n. IsForm n c.args.f.now) c.requires.same c.requires.form) in
    let e = exchanged_same _ _ _ _ c.in_ok-octagon.ensures c.in_ok-strides.ensures in
    let k = both_answered c.args.first.now _ _ i j c.requires.same in
    IfOk-weaker c.exchanged.result _ _ (λ leaf f. ap (λ (u : LeafValue). u.variables) (f ∙ e) ∙ k) c.exchanged.ensures
