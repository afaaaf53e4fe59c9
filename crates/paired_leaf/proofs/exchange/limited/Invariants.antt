use Rattle.std.proofs.Common.{◌≡◌}
use Rattle.paired_leaf.specs.Exchange.{limited_below}
use Rattle.paired_leaf.proofs.exchange.limited.Given as goal

abbrev pub invariant-loop-x : goal.invariant-loop-x
invariant-loop-x g l = (g.K.Leaf.value l.met ≡ limited_below g.K.Leaf.meaning g.L.Leaf.meaning (g.K.Leaf.value l.fn.leaf) (g.L.Leaf.value l.other) l.x) × ((g.K.Leaf.value l.met).variables ≡ l.variables) × (l.variables ≡ (g.K.Leaf.value l.fn.leaf).variables)
