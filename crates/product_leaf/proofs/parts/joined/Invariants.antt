use Rattle.std.proofs.Common.{◌≡◌, take}
use Rattle.product_leaf.specs.StrideLeaves.{joined_all}
use Rattle.product_leaf.proofs.parts.joined.Given as goal

abbrev pub invariant-loop-i : goal.invariant-loop-i
invariant-loop-i l = l.made.items ≡ joined_all (take l.i l.a) (take l.i l.b)
