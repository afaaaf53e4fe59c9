use Rattle.std.proofs.Common.{◌≡◌, ◌≤◌, ◌+◌, ◌-◌, ◌*◌, ◌^◌, length, drop}
use Rattle.c_words.specs.Numbers.{value_in}
use Rattle.c_words.proofs.numbers.value_in.Given as goal

abbrev pub invariant-loop-digit : goal.invariant-loop-digit
invariant-loop-digit l = record {
  in_range : l.digit-index ≤ length l.digits;
  value : l.value * l.base ^ (length l.digits - l.digit-index) + value_in l.base (drop l.digit-index l.digits) ≡ value_in l.base l.digits;
  small : l.value ≤ l.most;
}
