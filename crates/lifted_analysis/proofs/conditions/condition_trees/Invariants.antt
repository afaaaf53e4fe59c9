use Rattle.std.proofs.Common.{take}
use Rattle.lifted_analysis.specs.Conditions.{AreTreesOf}
use Rattle.lifted_analysis.proofs.conditions.condition_trees.Given as goal

abbrev pub invariant-loop-condition : goal.invariant-loop-condition
invariant-loop-condition g l = AreTreesOf (take l.condition-index l.conditions) l.trees.items
