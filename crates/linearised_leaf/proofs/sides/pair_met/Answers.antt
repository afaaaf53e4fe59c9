use Rattle.std.proofs.Common.{◌≡◌, ℕ, true, IfOk, IfSome, sym, subst, ◌∙◌, to_z, of_z, arith}
use Rattle.std.specs.Int.{w128}
use Rattle.leaf_domain.specs.Forms.{IsForm}
use Rattle.leaf_domain.specs.Leaves.{LeafValue}
use Rattle.linearised_leaf.specs.Sides.{two_terms}
use Rattle.linearised_leaf.proofs.Wide.{pair_form, pair_is}
use Rattle.linearised_leaf.proofs.sides.pair_met.Goals as goal

pub met_pair-requires : goal.met_pair-requires
met_pair-requires g c =
    subst (λ m. IfSome c.kept.result (λ n. IsForm m (two_terms c.args.first c.args.second n))) (sym c.requires.same)
    (pair_form (g.L.Leaf.value c.args.leaf.now).variables c.args.first c.args.second c.kept.result (to_z w128 (of_z w128 c.left_for_two-left.result)) c.requires.terms c.kept.ensures)

pub returns-clause-value : goal.returns-clause-value
returns-clause-value g c =
    let P : LeafValue → Type 0 = λ u. IfOk c.met_pair.result (λ kept. g.L.Leaf.value kept ≡ u) in
    let f = c.if-not-are_units.false in
    let d : c.are_units.result ≡ true = grind arith in
    subst P
    (pair_is g.L.Leaf.meaning (g.L.Leaf.value c.args.leaf.now) c.args.least c.args.first c.args.second (g.L.Leaf.value c.args.met) c.kept.result c.left_for_two-left.result c.least_term.result c.least_term-2.result
    c.requires.terms.3 c.requires.terms.4.3 (sym c.are_units.ensures ∙ d) c.requires.least c.least_term.ensures.size c.least_term-2.ensures.size c.least_term.ensures.value c.least_term-2.ensures.value c.left_for_two-left.ensures c.kept.ensures)
    c.met_pair.ensures.value

pub returns-clause-same : goal.returns-clause-same
returns-clause-same g c =
    let P : ℕ → Type 0 = λ n. IfOk c.met_pair.result (λ kept. (g.L.Leaf.value kept).variables ≡ n) in
    subst P c.requires.same c.met_pair.ensures.same
