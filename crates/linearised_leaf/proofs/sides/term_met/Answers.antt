use Rattle.std.proofs.Common.{◌≡◌, ℕ, IfOk, subst}
use Rattle.leaf_domain.specs.Leaves.{LeafValue}
use Rattle.linearised_leaf.proofs.Wide.{term_is}
use Rattle.linearised_leaf.proofs.sides.term_met.Goals as goal

pub returns-clause-value : goal.returns-clause-value
returns-clause-value g c =
    let P : LeafValue → Type 0 = λ u. IfOk c.limited_at.result (λ kept. g.L.Leaf.value kept ≡ u) in
    subst P
    (term_is g.L.Leaf.meaning (g.L.Leaf.value c.args.leaf.now) c.args.least c.args.x c.args.factor (g.L.Leaf.value c.args.met) c.multiples_below.result c.left_for_one-left.result c.least_term.result
    c.requires.least c.requires.factor c.least_term.ensures.size c.least_term.ensures.value c.left_for_one-left.ensures.value c.multiples_below.ensures.value)
    c.limited_at.ensures.value

pub returns-clause-same : goal.returns-clause-same
returns-clause-same g c =
    let P : ℕ → Type 0 = λ n. IfOk c.limited_at.result (λ kept. (g.L.Leaf.value kept).variables ≡ n) in
    subst P c.requires.same c.limited_at.ensures.same
