use Rattle.std.proofs.Common.{◌≡◌, ◌≤◌, ◌+◌, drop, false}
use Rattle.cpp_conditions.specs.Descent.{plain}
use Rattle.cpp_conditions.specs.Tokens.{weight_behind}
use Rattle.cpp_conditions.proofs.judging.count_deep.Given as goal

abbrev pub invariant-loop-token : goal.invariant-loop-token
invariant-loop-token l = record {
  sum : weight_behind false (plain l.tokens) ≡ l.count + weight_behind l.is_behind_defined (plain (drop l.token-index l.tokens));
  fits : l.count ≤ l.token-index;
}
