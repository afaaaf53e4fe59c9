use Rattle.std.proofs.Common.{◌≡◌, drop, map, string_bytes, Global}
use Rattle.command_words.specs.Sorting.{sorted, sorted_from}
use Rattle.command_words.proofs.sorting.sort_words.Given as goal

abbrev pub invariant-loop-word : goal.invariant-loop-word
invariant-loop-word l =
    sorted_from l.state (map (string_bytes {Z = Global}) (drop l.word-index l.words)) ≡ sorted (map (string_bytes {Z = Global}) l.words)
