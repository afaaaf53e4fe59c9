use Rattle.std.proofs.Common.{ap, ◌∙◌}
use Rattle.leaf_domain.specs.Leaves.{LeafValue}
use Rattle.linearised_leaf.proofs.linear.linear_set.Goals as goal

pub tightened_set-requires-clause-same : goal.tightened_set-requires-clause-same
tightened_set-requires-clause-same g c =
    let v = g.L.Leaf.value c.args.leaf.now in
    let a = g.met.L.Leaf.laws.set_form_answers v c.args.x c.args.f.now c.args.r c.leaf_is_valid.ensures.valid c.requires.x c.requires.f c.requires.r in
    ap (λ (u : LeafValue). u.variables) c.in_ok-set.ensures ∙ a.same
