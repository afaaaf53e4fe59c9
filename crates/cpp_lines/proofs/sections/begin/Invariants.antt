use Rattle.std.proofs.Common.{map, take}
use Rattle.cpp_conditions.specs.Distinct.{AreAtomsOf}
use Rattle.cpp_conditions.specs.View.{proposition}
use Rattle.cpp_lines.proofs.sections.begin.Given as goal

abbrev pub invariant-loop-constraint : goal.invariant-loop-constraint
invariant-loop-constraint l = AreAtomsOf (map proposition (take l.constraint-index l.constraint-items)) l.atoms.items
