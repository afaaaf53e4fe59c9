use Rattle.std.proofs.Common.{◌≡◌, IfOk, subst, ap, ◌∙◌, to_z, of_z}
use Rattle.std.specs.Int.{w128}
use Rattle.leaf_domain.specs.Leaves.{LeafValue}
use Rattle.linearised_leaf.specs.LeastValues.{least_value}
use Rattle.linearised_leaf.proofs.Wide.{side_is, sum_wide, form_narrow}
use Rattle.linearised_leaf.proofs.sides.side_met.Goals as goal

pub returns-clause-value : goal.returns-clause-value
returns-clause-value g c =
    let M = g.L.Leaf.meaning in
    let v = g.L.Leaf.value c.args.leaf.now in
    let P : LeafValue → Type 0 = λ u. IfOk c.terms_met.result (λ met. g.L.Leaf.value met ≡ u) in
    subst P
    (side_is M v c.args.f.now c.args.more (to_z w128 (of_z w128 c.least_value-least.result)) c.items-terms.result.now (g.L.Leaf.value c.in_ok-met.met) (g.L.Leaf.value c.in_ok-copy.field-0)
    (sum_wide c.least_value-least.result c.least_value-least.ensures.size ∙ c.least_value-least.ensures.value ∙ ap (λ m. least_value M v c.args.f.now m) (form_narrow c.args.more c.requires.more))
    c.items-terms.ensures c.in_ok-copy.ensures c.in_ok-met.ensures.value)
    c.terms_met.ensures.value
