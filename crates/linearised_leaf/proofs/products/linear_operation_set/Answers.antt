use Rattle.std.proofs.Common.{ap, subst, ◌∙◌}
use Rattle.leaf_domain.specs.Leaves.{LeafValue}
use Rattle.leaf_domain.specs.Sums.{HasForm}
use Rattle.linearised_leaf.proofs.products.linear_operation_set.Goals as goal

pub form_set-requires-clause-same : goal.form_set-requires-clause-same
form_set-requires-clause-same g c =
    let v = g.L.Leaf.value c.args.leaf.now in
    let a = g.met.L.Leaf.laws.set_operation_answers v c.args.x c.args.p.now c.args.r c.leaf_is_valid.ensures.valid c.requires.x c.requires.p c.requires.r in
    ap (λ (u : LeafValue). u.variables) c.in_ok-set.ensures ∙ a.same

pub form_set-requires-clause-f : goal.form_set-requires-clause-f
form_set-requires-clause-f g c = subst (HasForm (g.L.Leaf.value c.args.leaf.now).variables) c.in-Some.is c.in_ok-form.ensures.form
