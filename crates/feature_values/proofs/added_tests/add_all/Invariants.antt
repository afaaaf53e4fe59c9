use Rattle.std.proofs.Common.{map, take}
use Rattle.cpp_conditions.specs.View.{proposition}
use Rattle.feature_values.specs.Moved.{AreAdded}
use Rattle.feature_values.proofs.added_tests.add_all.Given as goal

abbrev pub invariant-loop-condition : goal.invariant-loop-condition
invariant-loop-condition l = AreAdded (map proposition (take l.condition-index l.conditions)) l.initial.atoms.items l.atoms.items
