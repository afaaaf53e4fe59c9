use Rattle.std.proofs.Common.{◌≡◌, take}
use Rattle.interval_leaf.specs.Intervals.{narrowed_all}
use Rattle.interval_leaf.proofs.ranges.narrowed_ranges.Given as goal

abbrev pub invariant-loop-i : goal.invariant-loop-i
invariant-loop-i l = l.made.items ≡ narrowed_all l.thresholds (take l.i l.x) (take l.i l.g)
