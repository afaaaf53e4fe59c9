use Rattle.std.proofs.Common.{◌≡◌, take}
use Rattle.interval_leaf.specs.Intervals.{widened_all}
use Rattle.interval_leaf.proofs.ranges.widened_ranges.Given as goal

abbrev pub invariant-loop-i : goal.invariant-loop-i
invariant-loop-i l = l.made.items ≡ widened_all l.thresholds (take l.i l.x) (take l.i l.g)
