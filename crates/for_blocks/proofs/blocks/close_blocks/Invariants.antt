use Rattle.std.proofs.Common.{◌≡◌, ◌++◌, length, reverse}
use Rattle.for_blocks.specs.Blocks.{closing, still_open}
use Rattle.for_blocks.proofs.blocks.close_blocks.Given as goal

abbrev pub invariant-ends : goal.invariant-ends
invariant-ends l = record {
  made : l.made.items ++ closing l.left (reverse l.ends.items) ≡ l.initial.made.items ++ closing l.left (reverse l.initial.ends.items);
  ends : still_open l.left (reverse l.ends.items) ≡ still_open l.left (reverse l.initial.ends.items);
}

abbrev pub decreases-ends : goal.decreases-ends
decreases-ends l = length l.ends.items
