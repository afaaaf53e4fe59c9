use Rattle.std.proofs.Common.{◌-◌}
use Rattle.analysis_tests.proofs.unifying.+parity_trees.Given as goal

abbrev pub decreases-parity_trees : goal.decreases-parity_trees
decreases-parity_trees l = l.end - l.first
