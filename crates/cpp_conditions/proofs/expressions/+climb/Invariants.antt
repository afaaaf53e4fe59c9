use Rattle.std.proofs.Common.{◌<◌, ◌+◌, ◌*◌, length}
use Rattle.cpp_conditions.specs.Descent.{expression, plain, Goes}
use Rattle.cpp_conditions.proofs.expressions.+climb.Given as goal

abbrev pub decreases-operand : goal.decreases-operand
decreases-operand l = 2 * length l.tokens.now

abbrev pub decreases-climb : goal.decreases-climb
decreases-climb l = 2 * length l.tokens.now + 1

abbrev pub invariant-climb-more : goal.invariant-climb-more
invariant-climb-more l = record { read : Goes l.level (plain l.tokens) (expression l.left) (plain l.rest); shorter : length l.rest < length l.tokens }

abbrev pub decreases-climb-more : goal.decreases-climb-more
decreases-climb-more l = length l.rest
