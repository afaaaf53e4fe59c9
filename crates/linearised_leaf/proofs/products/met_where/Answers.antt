use Rattle.std.proofs.Common.{◌≡◌, Some, ap, sym, ◌∙◌}
use Rattle.std.proofs.lemmas.Result.{IfOk-weaker}
use Rattle.leaf_domain.specs.Leaves.{LeafValue}
use Rattle.linearised_leaf.specs.Products.{met_where}
use Rattle.linearised_leaf.proofs.ProductLaws.{where_met_like}
use Rattle.linearised_leaf.proofs.products.met_where.Goals as goal

pub returns-in-Some-clause-same : goal.returns-in-Some-clause-same
returns-in-Some-clause-same g c =
    let M = g.L.Leaf.meaning in
    let v = g.L.Leaf.value c.args.leaf in
    let j = where_met_like M g.met.L.Leaf.laws v c.args.f.now c.args.op c.leaf_is_valid.ensures.valid c.requires in
    let e = ap (λ o. met_where M v o c.args.op) c.in-Some.is in
    IfOk-weaker c.linear_met.result (λ met. g.L.Leaf.value met ≡ met_where M v (Some c.in-Some.f) c.args.op) (λ met. (g.L.Leaf.value met).variables ≡ v.variables)
    (λ met k. ap (λ (u : LeafValue). u.variables) (k ∙ sym e) ∙ j.same) c.linear_met.ensures
