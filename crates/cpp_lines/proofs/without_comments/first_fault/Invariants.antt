use Rattle.std.proofs.Common.{◌≡◌, ◌≤◌, ◌+◌, length, drop}
use Rattle.fam_outer.specs.Places.{place_at}
use Rattle.cpp_lines.specs.Faults.{first_fault_from}
use Rattle.cpp_lines.proofs.without_comments.first_fault.Given as goal

abbrev pub invariant-scan : goal.invariant-scan
invariant-scan l = record {
  read : first_fault_from l.bytes l.at l.left l.rest ≡ first_fault_from l.bytes 0 0 l.bytes;
  rest : l.rest ≡ drop l.at l.bytes;
  len : l.at + length l.rest ≡ length l.bytes;
  place : l.place ≡ place_at l.bytes l.at;
  line : l.place.line ≤ l.at + 1;
  column : l.place.column ≤ l.at + 1;
  positive : 1 ≤ l.place.column;
}

abbrev pub decreases-scan : goal.decreases-scan
decreases-scan l = length l.rest
