use Rattle.std.proofs.Common.{◌≡◌, drop}
use Rattle.certificate_format.specs.Rows.{row_of}
use Rattle.certificate_format.proofs.literals.piece_of.Given as goal

abbrev pub invariant-loop-row : goal.invariant-loop-row
invariant-loop-row l = row_of l.rows l.text ≡ row_of (drop l.row-index l.rows) l.text
