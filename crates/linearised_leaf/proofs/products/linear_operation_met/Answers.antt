use Rattle.std.proofs.Common.{ap, sym, subst, ◌∙◌}
use Rattle.leaf_domain.specs.Forms.{IsForm}
use Rattle.leaf_domain.specs.Leaves.{LeafValue}
use Rattle.leaf_domain.specs.Sums.{HasForm}
use Rattle.linearised_leaf.proofs.products.linear_operation_met.Goals as goal

pub met_between-requires : goal.met_between-requires
met_between-requires g c =
    let v = g.L.Leaf.value c.args.leaf in
    let a = g.met.L.Leaf.laws.meet_operation_answers v c.args.p.now c.args.op c.args.r c.leaf_is_valid.ensures.valid c.requires.p c.requires.r in
    subst (λ n. IsForm n c.in-Some.f) (sym (ap (λ (u : LeafValue). u.variables) c.in_ok-met.ensures ∙ a.same))
    (subst (HasForm v.variables) c.in-Some.is c.in_ok-form.ensures.form)
