use Rattle.certificate_format.proofs.Digits.{other_positive}
use Rattle.certificate_format.proofs.numbers.positive.Goals as goal

pub returns-then-size-ge-MOST_SIZE : goal.returns-then-size-ge-MOST_SIZE
returns-then-size-ge-MOST_SIZE c = other_positive c.args.digits.now c.in-Some.size c.in-Some.ensures.1 c.in-Some.ensures.0 c.if-size-ge-MOST_SIZE.true
