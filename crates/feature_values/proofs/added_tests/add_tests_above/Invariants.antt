use Rattle.std.proofs.Common.{◌≡◌, ◌++◌, pos, ◌+ℤ◌, map}
use Rattle.cpp_conditions.specs.View.{proposition}
use Rattle.feature_values.specs.Values.{tests_above}
use Rattle.feature_values.proofs.added_tests.add_tests_above.Given as goal

abbrev pub invariant-above : goal.invariant-above
invariant-above l = record {
  made : map proposition l.made.items ++ tests_above l.fn.feature l.bound l.left ≡ map proposition l.initial.made.items ++ tests_above l.fn.feature l.fn.low l.fn.count;
  value : l.bound +ℤ pos l.left ≡ l.fn.low +ℤ pos l.fn.count;
}

abbrev pub decreases-above : goal.decreases-above
decreases-above l = l.left
