use Rattle.std.proofs.Common.{◌≡◌, ℕ, true, IfOk, sym, subst, ◌∙◌, to_z, of_z, arith}
use Rattle.std.specs.Int.{w128}
use Rattle.leaf_domain.specs.Leaves.{LeafValue}
use Rattle.linearised_leaf.proofs.Wide.{kept_has, difference_is}
use Rattle.linearised_leaf.proofs.differences.difference_met.Goals as goal

pub met_in_order-requires-clause-constant : goal.met_in_order-requires-clause-constant
met_in_order-requires-clause-constant g c = kept_has (to_z w128 (of_z w128 c.left_for_rest-left.result)) c.kept.result c.kept.ensures

pub returns-clause-value : goal.returns-clause-value
returns-clause-value g c =
    let P : LeafValue → Type 0 = λ u. IfOk c.met_in_order.result (λ kept. g.L.Leaf.value kept ≡ u) in
    let f = c.if-not-is_other_unit.false in
    let d : c.is_other_unit.result ≡ true = grind arith in
    subst P
    (difference_is g.L.Leaf.meaning (g.L.Leaf.value c.args.leaf.now) c.args.least c.args.own c.args.term (g.L.Leaf.value c.args.met) c.kept.result c.left_for_rest-left.result c.least_term.result c.requires.term.3
    (sym c.is_other_unit.ensures ∙ d) c.requires.least c.least_term.ensures.size c.least_term.ensures.value c.left_for_rest-left.ensures c.kept.ensures)
    c.met_in_order.ensures.value

pub returns-clause-same : goal.returns-clause-same
returns-clause-same g c =
    let P : ℕ → Type 0 = λ n. IfOk c.met_in_order.result (λ kept. (g.L.Leaf.value kept).variables ≡ n) in
    subst P c.requires.same c.met_in_order.ensures.same
