use Rattle.std.proofs.Common.{◌≡◌, ◌≤◌, ◌+◌, length, drop}
use Rattle.fam_outer.specs.Places.{place_at}
use Rattle.cpp_lines.specs.Lines.{pieces, plain_lines_from}
use Rattle.cpp_lines.proofs.Listing.{prepended}
use Rattle.cpp_lines.proofs.lines.plain_lines.Given as goal

abbrev pub invariant-lines : goal.invariant-lines
invariant-lines l = record {
  read : prepended l.list.items (plain_lines_from l.includes l.blanked l.start (pieces l.rest)) ≡ plain_lines_from l.includes l.blanked 0 (pieces l.blanked);
  rest : l.rest ≡ drop l.start l.blanked;
  len : l.start + length l.rest ≡ length l.blanked;
  first : l.first ≡ place_at l.blanked l.start;
  line : l.first.line ≤ l.start + 1;
  column : l.first.column ≡ 1;
}

abbrev pub decreases-lines : goal.decreases-lines
decreases-lines l = length l.rest
