use Rattle.std.proofs.Common.{◌≡◌, ◌+◌, ◌-◌, ◌*◌, ◌^◌, ◌≤◌, length, drop, get_or, ◌∙◌, arith}
use Rattle.std.specs.Char.{digit_value}
use Rattle.c_words.specs.Numbers.{value_in}
use Rattle.c_words.proofs.Values.{one_more, at_least, large_is_none}
use Rattle.c_words.proofs.numbers.value_in.Goals as goal

pub returns-then-next-most : goal.returns-then-next-most
returns-then-next-most c =
    let base = c.args.base in
    let digits = c.args.digits.now in
    let i = c.loop-digit.digit-index in
    let v = c.loop-digit.value in
    let e : (v * base + digit_value (get_or digits i 0)) * base ^ (length digits - (i + 1)) + value_in base (drop (i + 1) digits) ≡ value_in base digits = one_more base digits i v c.loop-digit-test.true ∙ c.loop-digit.invariant.value in
    let le : v * base + digit_value (get_or digits i 0) ≤ value_in base digits = at_least base digits (i + 1) (v * base + digit_value (get_or digits i 0)) c.requires.some e in
    large_is_none c.args.most (value_in base digits) (omega (arith, le, c.digit_value.ensures, c.if-next-most.true))

pub loop-digit-preserved : goal.loop-digit-preserved
loop-digit-preserved c =
    let base = c.args.base in
    let digits = c.args.digits.now in
    let i = c.loop-digit.digit-index in
    record {
      in_range = omega arith;
      value = rw c.digit_value.ensures (one_more base digits i c.loop-digit.value c.loop-digit-test.true ∙ c.loop-digit.invariant.value);
      small = omega arith;
    }
