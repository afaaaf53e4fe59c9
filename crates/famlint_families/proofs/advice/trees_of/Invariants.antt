use Rattle.std.proofs.Common.{◌≡◌, map, take}
use Rattle.decision_tree.specs.View.{numbered}
use Rattle.famlint_families.proofs.Advising.{numbered_trees}
use Rattle.famlint_families.proofs.advice.trees_of.Given as goal

abbrev pub invariant-loop-alarm : goal.invariant-loop-alarm
invariant-loop-alarm l = map numbered l.trees.items ≡ numbered_trees (take l.alarm-index l.alarms)
