use Rattle.std.proofs.Common.{◌≡◌, ◌+◌, drop, map, length, string_bytes, Global}
use Rattle.feature_model.specs.Settings.{steps, unset, count, AreSmall}
use Rattle.feature_model.proofs.settings.all_set.Given as goal

abbrev pub invariant-loop-word : goal.invariant-loop-word
invariant-loop-word l = record {
  rest : steps l.features l.number l.slots.items (map (string_bytes {Z = Global}) (drop l.word-index l.words)) ≡ steps l.features 1 (unset l.features) (map (string_bytes {Z = Global}) l.words);
  length : length l.slots.items ≡ length l.features;
  number : l.number ≡ count l.slots.items + 1;
  small : AreSmall l.slots.items;
}
