use Rattle.std.proofs.Common.{◌≡◌, ◌++◌, length, reverse}
use Rattle.for_blocks.specs.Blocks.{unfolded, unfolded_from}
use Rattle.for_blocks.proofs.blocks.unfolded.Given as goal

abbrev pub invariant-items : goal.invariant-items
invariant-items l = l.made.items ++ unfolded_from l.part (reverse l.ends.items) l.rest ≡ unfolded l.items

abbrev pub decreases-items : goal.decreases-items
decreases-items l = length l.rest
