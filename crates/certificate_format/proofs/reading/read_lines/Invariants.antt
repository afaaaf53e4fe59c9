use Rattle.std.proofs.Common.{◌≡◌, length}
use Rattle.certificate_format.specs.Rows.{row_of}
use Rattle.certificate_format.proofs.Certified.{IsReached}
use Rattle.certificate_format.proofs.reading.read_lines.Given as goal

abbrev pub invariant-lines : goal.invariant-lines
invariant-lines l = record {
  reached : IsReached (row_of l.rows) l.names l.text l.rest l.number l.certificate.loops.items l.certificate.alarms.items;
  mode : l.certificate.mode ≡ l.fn.mode;
}

abbrev pub decreases-lines : goal.decreases-lines
decreases-lines l = length l.rest
