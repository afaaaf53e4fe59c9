use Rattle.std.proofs.Common.{◌≡◌, ℤ, List, map, take, drop, length}
use Rattle.std.specs.List.{All}
use Rattle.cpp_conditions.specs.Numbering.{AreAllAmong}
use Rattle.cpp_conditions.specs.Propositions.{IsBelow}
use Rattle.cpp_conditions.specs.View.{proposition, formula}
use Rattle.cpp_lines.specs.Sections.{AreNumbered, truths_on, truths_at}
use Rattle.cpp_lines.proofs.sections.formulas_of.Given as goal

abbrev pub invariant-loop-condition : goal.invariant-loop-condition
invariant-loop-condition l = record {
  among : AreAllAmong l.atoms (map proposition (drop l.condition-index l.conditions));
  numbered : AreNumbered l.atoms (map proposition (take l.condition-index l.conditions)) l.made.items;
  truths : (values : List ℤ) → truths_on l.atoms values l.made.items ≡ truths_at values (map proposition (take l.condition-index l.conditions));
  below : All (λ f. IsBelow (length l.atoms) (formula f)) l.made.items;
}
