use Rattle.std.proofs.Common.{◌≡◌, ◌+◌, ◌≤◌, length}
use Rattle.for_blocks.specs.Blocks.{behind_closing, parentheses_behind}
use Rattle.for_blocks.proofs.statement_ends.behind_closing_parenthesis.Given as goal

abbrev pub invariant-items : goal.invariant-items
invariant-items l = record {
  counted : l.depth + length l.rest ≤ length l.items;
  behind : behind_closing parentheses_behind 0 l.items ≡ behind_closing parentheses_behind l.depth l.rest;
}

abbrev pub decreases-items : goal.decreases-items
decreases-items l = length l.rest
