use Rattle.congruence_leaf.proofs.DividedBy.{number_back, divisor_some, divisor_none, divisor_more}
use Rattle.congruence_leaf.proofs.operands.divisor.Goals as goal

pub returns-then-is_divisor : goal.returns-then-is_divisor
returns-then-is_divisor c =
    divisor_some c.args.f.now c.items.result.now c.is_divisor.result _ c.items.ensures c.in-None.ensures.parts c.is_divisor.ensures c.if-is_divisor.true (number_back c.args.f.now.constant c.requires)

pub returns-else-is_divisor : goal.returns-else-is_divisor
returns-else-is_divisor c =
    divisor_none c.args.f.now c.items.result.now c.is_divisor.result _ c.items.ensures c.in-None.ensures.parts c.is_divisor.ensures c.if-is_divisor.false (number_back c.args.f.now.constant c.requires)

pub returns-in-Some : goal.returns-in-Some
returns-in-Some c = divisor_more c.args.f.now c.items.result.now _ _ _ c.items.ensures c.in-Some.ensures.parts
