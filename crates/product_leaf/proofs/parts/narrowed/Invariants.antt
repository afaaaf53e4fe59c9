use Rattle.std.proofs.Common.{◌≡◌, take}
use Rattle.product_leaf.specs.StrideLeaves.{narrowed_all}
use Rattle.product_leaf.proofs.parts.narrowed.Given as goal

abbrev pub invariant-loop-i : goal.invariant-loop-i
invariant-loop-i l = l.made.items ≡ narrowed_all l.thresholds (take l.i l.x) (take l.i l.g)
