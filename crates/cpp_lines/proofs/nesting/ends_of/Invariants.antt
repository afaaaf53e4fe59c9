use Rattle.std.proofs.Common.{◌≡◌, ◌≤◌, ◌+◌, ◌-◌, length}
use Rattle.cpp_lines.specs.Lines.{pieces}
use Rattle.cpp_lines.specs.Nesting as nesting
use Rattle.cpp_lines.proofs.nesting.ends_of.Given as goal

abbrev pub invariant-lines : goal.invariant-lines
invariant-lines l = record {
  same : nesting.ends_of (pieces l.bytes) ≡ l.count.ended + (nesting.ends_of (pieces l.rest) - l.count.open);
  bound : l.count.open + l.count.ended + length l.rest ≤ length l.bytes;
}

abbrev pub decreases-lines : goal.decreases-lines
decreases-lines l = length l.rest
