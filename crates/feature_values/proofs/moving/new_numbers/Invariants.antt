use Rattle.std.proofs.Common.{◌≡◌, take, length}
use Rattle.feature_values.specs.Moved.{AreNewNumbers}
use Rattle.feature_values.proofs.moving.new_numbers.Given as goal

abbrev pub invariant-loop-atom : goal.invariant-loop-atom
invariant-loop-atom l = record {
  numbers : AreNewNumbers (take l.atom-index l.old) l.new l.made.items;
  count : length l.made.items ≡ l.atom-index;
}
