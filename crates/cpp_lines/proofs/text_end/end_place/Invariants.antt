use Rattle.std.proofs.Common.{◌≡◌, ◌≤◌, ◌+◌, take}
use Rattle.fam_outer.specs.Places.{end_place}
use Rattle.cpp_lines.proofs.text_end.end_place.Given as goal

abbrev pub invariant-loop-b : goal.invariant-loop-b
invariant-loop-b l = record {
  place : l.place ≡ end_place (take l.b-index l.bytes);
  line : l.place.line ≤ l.b-index + 1;
  column : l.place.column ≤ l.b-index + 1;
}
