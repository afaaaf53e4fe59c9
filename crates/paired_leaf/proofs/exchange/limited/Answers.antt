use Rattle.std.proofs.Common.{ap, sym, ◌∙◌}
use Rattle.paired_leaf.specs.Exchange.{limited_at, limited_below}
use Rattle.paired_leaf.proofs.ExchangeLaws.{below_none, below_next}
use Rattle.paired_leaf.proofs.exchange.limited.Goals as goal

pub loop-x-init : goal.loop-x-init
loop-x-init g c = (sym (below_none g.K.Leaf.meaning g.L.Leaf.meaning (g.K.Leaf.value c.args.leaf) (g.L.Leaf.value c.args.other.now)), sym c.variables-variables.ensures.value, c.variables-variables.ensures.value)

pub loop-x-preserved : goal.loop-x-preserved
loop-x-preserved g c =
    let M = g.K.Leaf.meaning in
    let N = g.L.Leaf.meaning in
    let v = g.K.Leaf.value c.args.leaf in
    let w = g.L.Leaf.value c.args.other.now in
    let i = c.loop-x.invariant in (
      c.in_ok-met.ensures.value ∙ ap (λ u. limited_at M u c.loop-x.x c.bounds_of.result) i.0 ∙ ap (λ r. limited_at M (limited_below M N v w c.loop-x.x) c.loop-x.x r) c.bounds_of.ensures ∙ sym (below_next M N v w c.loop-x.x),
      c.in_ok-met.ensures.same ∙ i.1,
      i.2,
    )
