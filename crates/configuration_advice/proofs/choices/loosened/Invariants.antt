use Rattle.std.proofs.Common.{◌++◌, List, length}
use Rattle.configuration_advice.specs.declared.choices.Choice.{Choice}
use Rattle.configuration_advice.specs.Choices.{Tightens}
use Rattle.configuration_advice.proofs.choices.loosened.Given as goal

-- what is made, with any end that tightens what is left, tightens all
abbrev pub invariant-choices : goal.invariant-choices
invariant-choices l = record {
  left : Tightens l.rest l.others;
  made : (end : List Choice) → Tightens l.rest end → Tightens l.fn.choices (l.made.items ++ end);
}

abbrev pub decreases-choices : goal.decreases-choices
decreases-choices l = length l.rest
