use Rattle.std.proofs.Common.{length}
use Rattle.invariant_certificate.proofs.listing.+listed.Given as goal

abbrev pub decreases-listed : goal.decreases-listed
decreases-listed l = length l.lines.now
