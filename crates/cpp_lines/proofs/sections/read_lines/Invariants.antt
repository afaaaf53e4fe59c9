use Rattle.std.proofs.Common.{◌≡◌, ◌≤◌, ◌+◌, length, drop}
use Rattle.fam_outer.specs.Places.{place_at}
use Rattle.cpp_conditions.specs.Validity.{plain}
use Rattle.cpp_lines.specs.Lines.{pieces}
use Rattle.cpp_lines.specs.Taking.{IsKept}
use Rattle.cpp_lines.proofs.Standing.{Stands}
use Rattle.cpp_lines.proofs.sections.read_lines.Given as goal

abbrev pub invariant-lines : goal.invariant-lines
invariant-lines l = record {
  stands : Stands l.dialect (plain l.model) l.blanked l.start l.reading (pieces l.rest);
  kept : IsKept (plain l.model) l.reading;
  count : length l.reading.conditions.items ≤ l.start;
  rest : l.rest ≡ drop l.start l.blanked;
  len : l.start + length l.rest ≡ length l.blanked;
  first : l.first ≡ place_at l.blanked l.start;
  line : l.first.line ≤ l.start + 1;
  column : l.first.column ≡ 1;
}

abbrev pub decreases-lines : goal.decreases-lines
decreases-lines l = length l.rest
