use Rattle.std.proofs.Common.{to_z, of_z}
use Rattle.std.specs.Int.{w128}
use Rattle.linearised_leaf.specs.Differences.{differences_met}
use Rattle.linearised_leaf.proofs.Wide.{differences_next, terms_next_are}
use Rattle.linearised_leaf.proofs.differences.differences_met.Goals as goal

pub terms-preserved : goal.terms-preserved
terms-preserved g c =
    let M = g.L.Leaf.meaning in
    let v = g.L.Leaf.value c.args.leaf.now in
    let n = to_z w128 (of_z w128 c.args.least) in
    record {
      terms = terms_next_are v.variables c.terms.rest.now c.in-Some.behind.now c.in-Some.x c.in-Some.factor c.in-Some.ensures.parts c.terms.invariant.terms;
      same = c.in_ok-kept.ensures.same;
      left = differences_next M v n c.args.own c.terms.rest.now c.in-Some.behind.now c.in-Some.x c.in-Some.factor (g.L.Leaf.value c.terms.kept) (g.L.Leaf.value c.in_ok-kept.kept) (differences_met M v n c.args.own c.args.terms.now (g.L.Leaf.value c.args.met))
          c.in-Some.ensures.fits c.in-Some.ensures.parts c.in_ok-kept.ensures.value c.terms.invariant.left;
    }
