use Rattle.std.proofs.Common.{subst, ◌+◌, to_z, of_z}
use Rattle.std.specs.Int.{w128}
use Rattle.leaf_domain.specs.Forms.{AreTerms}
use Rattle.linearised_leaf.specs.Sides.{pairs_met}
use Rattle.linearised_leaf.proofs.Terms.{terms_behind}
use Rattle.linearised_leaf.proofs.Wide.{pairs_next}
use Rattle.linearised_leaf.proofs.sides.pairs_met.Goals as goal

pub others-preserved : goal.others-preserved
others-preserved g c =
    let M = g.L.Leaf.meaning in
    let v = g.L.Leaf.value c.args.leaf.now in
    let n = to_z w128 (of_z w128 c.args.least) in
    let t = c.others.invariant.terms in
    record {
      terms = (t.0, t.1, t.2, t.3, terms_behind (c.args.first.0 + 1) v.variables (c.in-Some.x, c.in-Some.factor) c.in-Some.behind.now (subst (AreTerms (c.args.first.0 + 1) v.variables) c.in-Some.ensures.parts t.4));
      same = c.in_ok-kept.ensures.same;
      left = pairs_next M v n c.args.first c.others.rest.now c.in-Some.behind.now c.in-Some.x c.in-Some.factor (g.L.Leaf.value c.others.kept) (g.L.Leaf.value c.in_ok-kept.kept) (pairs_met M v n c.args.first c.args.others.now (g.L.Leaf.value c.args.met))
          c.in-Some.ensures.fits c.in-Some.ensures.parts c.in_ok-kept.ensures.value c.others.invariant.left;
    }
