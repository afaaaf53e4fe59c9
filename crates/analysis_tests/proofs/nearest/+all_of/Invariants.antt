use Rattle.std.proofs.Common.{◌+◌, ◌-◌}
use Rattle.analysis_tests.proofs.nearest.+all_of.Given as goal

abbrev pub decreases-all_of : goal.decreases-all_of
decreases-all_of l = l.to + 1 - l.from
