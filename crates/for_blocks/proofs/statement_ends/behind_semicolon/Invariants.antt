use Rattle.std.proofs.Common.{◌≡◌, length}
use Rattle.for_blocks.specs.Blocks.{behind_semicolon}
use Rattle.for_blocks.proofs.statement_ends.behind_semicolon.Given as goal

abbrev pub invariant-items : goal.invariant-items
invariant-items l = behind_semicolon l.items ≡ behind_semicolon l.rest

abbrev pub decreases-items : goal.decreases-items
decreases-items l = length l.rest
