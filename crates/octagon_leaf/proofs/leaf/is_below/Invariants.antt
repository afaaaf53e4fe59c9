use Rattle.octagon_leaf.proofs.Below.{IsComparing}
use Rattle.octagon_leaf.proofs.leaf.is_below.Given as goal

abbrev pub invariant-loop-a : goal.invariant-loop-a
invariant-loop-a l = IsComparing l.first l.second l.a 0

abbrev pub invariant-loop-b : goal.invariant-loop-b
invariant-loop-b l = IsComparing l.first l.second l.a l.b
