use Rattle.std.proofs.Common.{length, map}
use Rattle.linear_atoms.specs.Ranges.{extreme_sum}
use Rattle.linear_atoms.proofs.Readings.{Summing}
use Rattle.linear_atoms.proofs.ranges.extreme_sum.Given as goal

abbrev pub invariant-terms : goal.invariant-terms
invariant-terms g l = Summing (extreme_sum l.fn.is_greatest (map g.R.Ranged.feature l.fn.ranges)) (length l.fn.ranges) l.sum l.rest l.initial.rest

abbrev pub decreases-terms : goal.decreases-terms
decreases-terms g l = length l.rest
