use Rattle.std.proofs.Common.{◌≡◌, ◌++◌, length, map}
use Rattle.cpp_conditions.specs.View.{proposition}
use Rattle.feature_values.specs.Values.{AreUses, tests_of}
use Rattle.feature_values.proofs.added_tests.tests.Given as goal

abbrev pub invariant-uses : goal.invariant-uses
invariant-uses l = record {
  made : map proposition l.made.items ++ tests_of l.fn.features l.rest ≡ tests_of l.fn.features l.fn.uses;
  uses : AreUses l.fn.features l.rest;
}

abbrev pub decreases-uses : goal.decreases-uses
decreases-uses l = length l.rest
