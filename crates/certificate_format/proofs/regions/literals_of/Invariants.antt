use Rattle.std.proofs.Common.{length}
use Rattle.certificate_format.specs.Rows.{row_of}
use Rattle.certificate_format.proofs.Pieces.{AreFound}
use Rattle.certificate_format.proofs.regions.literals_of.Given as goal

abbrev pub invariant-pieces : goal.invariant-pieces
invariant-pieces l = AreFound (row_of l.rows) l.fn.region l.rest l.found.items

abbrev pub decreases-pieces : goal.decreases-pieces
decreases-pieces l = length l.rest
