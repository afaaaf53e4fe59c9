use Rattle.std.proofs.Common.{◌+◌}
use Rattle.decision_tree.specs.View.{plain}
use Rattle.tree_unify.specs.Sides.{node_count}
use Rattle.tree_unify.proofs.numbered.+unify_known.Given as goal

abbrev pub decreases-unify_known : goal.decreases-unify_known
decreases-unify_known g l = node_count (plain l.t.now) + node_count (plain l.u.now)
