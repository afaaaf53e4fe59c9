use Rattle.std.proofs.Common.{◌∙◌}
use Rattle.linearised_leaf.proofs.Wide.{terms_next_are}
use Rattle.linearised_leaf.proofs.ProductLaws.{next_known}
use Rattle.linearised_leaf.proofs.products.have_one_value.Goals as goal

pub terms-preserved : goal.terms-preserved
terms-preserved g c =
    let v = g.L.Leaf.value c.args.leaf.now in
    record {
      terms = terms_next_are v.variables c.terms.rest.now c.in-Some.behind.now c.in-Some.x c.in-Some._factor c.in-Some.ensures.parts c.terms.invariant.terms;
      left = next_known g.L.Leaf.meaning v c.terms.rest.now c.in-Some.behind.now c.in-Some.x c.in-Some._factor c.bounds_of.result c.is_single.result c.in-Some.ensures.parts c.bounds_of.ensures c.is_single.ensures c.if-is_single.true
          ∙ c.terms.invariant.left;
    }
