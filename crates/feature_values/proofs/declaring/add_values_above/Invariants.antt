use Rattle.std.proofs.Common.{◌≡◌, ◌++◌, ◌+◌, pos, ◌+ℤ◌}
use Rattle.feature_values.specs.Declarators.{declarators_above}
use Rattle.feature_values.proofs.declaring.add_values_above.Given as goal

abbrev pub invariant-above : goal.invariant-above
invariant-above l = record {
  made : l.made.items ++ declarators_above l.number l.fn.target l.value l.left ≡ l.initial.made.items ++ declarators_above l.fn.first l.fn.target l.fn.low l.fn.count;
  numbers : l.number + l.left ≡ l.fn.first + l.fn.count;
  value : l.value +ℤ pos l.left ≡ l.fn.low +ℤ pos l.fn.count;
}

abbrev pub decreases-above : goal.decreases-above
decreases-above l = l.left
