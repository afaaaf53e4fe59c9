use Rattle.std.proofs.Common.{length}
use Rattle.linearised_leaf.specs.LeastValues.{least_value}
use Rattle.linearised_leaf.proofs.Summing.{IsSumming}
use Rattle.linearised_leaf.proofs.least.least_value.Given as goal

abbrev pub invariant-terms : goal.invariant-terms
invariant-terms g l = IsSumming g.L.Leaf.meaning (g.L.Leaf.value l.leaf) (least_value g.L.Leaf.meaning (g.L.Leaf.value l.leaf) l.f l.more) l.sum l.rest

abbrev pub decreases-terms : goal.decreases-terms
decreases-terms g l = length l.rest
