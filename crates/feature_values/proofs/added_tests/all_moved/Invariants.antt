use Rattle.std.proofs.Common.{◌≡◌, map, take}
use Rattle.cpp_conditions.specs.View.{formula}
use Rattle.feature_values.specs.Moved.{moved}
use Rattle.feature_values.proofs.added_tests.all_moved.Given as goal

abbrev pub invariant-loop-old : goal.invariant-loop-old
invariant-loop-old l = map formula l.made.items ≡ map (λ f. moved l.numbers (formula f)) (take l.old-index l.formulas)
