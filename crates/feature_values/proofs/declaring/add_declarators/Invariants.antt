use Rattle.std.proofs.Common.{◌≡◌, ◌++◌, ◌+◌, length}
use Rattle.feature_values.specs.Declarators.{declarators}
use Rattle.feature_values.specs.Values.{AreUses, test_count}
use Rattle.feature_values.proofs.declaring.add_declarators.Given as goal

abbrev pub invariant-uses : goal.invariant-uses
invariant-uses l = record {
  made : l.made.items ++ declarators l.number l.fn.features l.rest ≡ l.initial.made.items ++ declarators l.fn.first l.fn.features l.fn.uses;
  numbers : l.number + test_count l.fn.features l.rest ≡ l.fn.first + test_count l.fn.features l.fn.uses;
  uses : AreUses l.fn.features l.rest;
}

abbrev pub decreases-uses : goal.decreases-uses
decreases-uses l = length l.rest
