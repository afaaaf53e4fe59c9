use Rattle.std.proofs.Common.{inl, inr}
use Rattle.certificate_format.proofs.Digits.{no_negative, other_negative}
use Rattle.certificate_format.proofs.numbers.negative.Goals as goal

pub returns-in_default : goal.returns-in_default
returns-in_default c = no_negative c.args.digits.now c.in_default.ensures

pub returns-then-size-eq0 : goal.returns-then-size-eq0
returns-then-size-eq0 c = other_negative c.args.digits.now c.in-Some.size c.in-Some.ensures.1 c.in-Some.ensures.0 (inl c.if-size-eq0.true)

pub returns-then-size-gt-MOST_SIZE : goal.returns-then-size-gt-MOST_SIZE
returns-then-size-gt-MOST_SIZE c = other_negative c.args.digits.now c.in-Some.size c.in-Some.ensures.1 c.in-Some.ensures.0 (inr c.if-size-gt-MOST_SIZE.true)
