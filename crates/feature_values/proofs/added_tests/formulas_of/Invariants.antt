use Rattle.std.proofs.Common.{map, take, drop}
use Rattle.cpp_conditions.specs.Numbering.{AreAllAmong}
use Rattle.cpp_conditions.specs.View.{proposition}
use Rattle.cpp_lines.specs.Sections.{AreNumbered}
use Rattle.feature_values.proofs.added_tests.formulas_of.Given as goal

abbrev pub invariant-loop-condition : goal.invariant-loop-condition
invariant-loop-condition l = record {
  among : AreAllAmong l.atoms (map proposition (drop l.condition-index l.conditions));
  numbered : AreNumbered l.atoms (map proposition (take l.condition-index l.conditions)) l.made.items;
}
