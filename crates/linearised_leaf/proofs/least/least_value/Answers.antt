use Rattle.linearised_leaf.proofs.Wide.{summing_begin, summing_step}
use Rattle.linearised_leaf.proofs.least.least_value.Goals as goal

pub terms-init : goal.terms-init
terms-init g c = summing_begin g.L.Leaf.meaning (g.L.Leaf.value c.args.leaf.now) c.args.f.now c.args.more c.items-rest.result.now c.requires.form c.requires.more c.items-rest.ensures

pub terms-preserved : goal.terms-preserved
terms-preserved g c =
    summing_step g.L.Leaf.meaning (g.L.Leaf.value c.args.leaf.now) _ _ c.least_term-sum.result c.terms.rest.now c.in-Some.behind.now c.in-Some.x c.in-Some.factor c.leaf_is_valid.ensures.few c.in-Some.ensures.fits c.in-Some.ensures.parts
    c.least_term-sum.ensures.value c.least_term-sum.ensures.size c.terms.invariant
