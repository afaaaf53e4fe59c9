use Rattle.std.proofs.Common.{◌≡◌, IfOk, ap, sym, subst, ◌∙◌}
use Rattle.leaf_domain.specs.Leaves.{LeafValue, nothing_of}
use Rattle.paired_leaf.specs.Pairs.{pair_of}
use Rattle.paired_leaf.proofs.ExchangeLaws.{exchanged_none, exchanged_some}
use Rattle.paired_leaf.proofs.exchange.exchanged.Goals as goal

pub returns-then-has_nothing-clause-value : goal.returns-then-has_nothing-clause-value
returns-then-has_nothing-clause-value g c =
    let P : LeafValue → Type 0 = λ u. IfOk c.nothing.result (λ made. pair_of (g.A.Leaf.value made.first) (g.B.Leaf.value made.second) ≡ u) in
    let e = exchanged_none g.A.Leaf.meaning g.B.Leaf.meaning (g.A.Leaf.value c.args.first) (g.B.Leaf.value c.args.second) (sym c.has_nothing.ensures ∙ c.if-has_nothing.true) in
    subst P (ap nothing_of c.variables.ensures.value ∙ sym e) c.nothing.ensures.value

pub returns-clause-value : goal.returns-clause-value
returns-clause-value g c =
    let P : LeafValue → Type 0 = λ u. IfOk c.settled.result (λ made. pair_of (g.A.Leaf.value made.first) (g.B.Leaf.value made.second) ≡ u) in
    subst P
    (exchanged_some g.A.Leaf.meaning g.B.Leaf.meaning (g.A.Leaf.value c.args.first) (g.B.Leaf.value c.args.second) _ _ _ (sym c.has_nothing.ensures ∙ c.if-has_nothing.false)
    c.in_ok-second.ensures.value c.in_ok-first.ensures.value c.in_ok-second-2.ensures.value)
    c.settled.ensures.value
