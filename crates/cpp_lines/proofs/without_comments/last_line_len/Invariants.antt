use Rattle.std.proofs.Common.{◌≡◌, ◌≤◌, length, take}
use Rattle.fam_outer.specs.Places.{last_line}
use Rattle.cpp_lines.proofs.without_comments.last_line_len.Given as goal

abbrev pub invariant-loop-b : goal.invariant-loop-b
invariant-loop-b l = record {
  value : l.len ≡ length (last_line (take l.b-index l.bytes));
  within : l.len ≤ l.b-index;
}
