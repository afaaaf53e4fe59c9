use Rattle.std.proofs.Common.{◌≡◌, ◌+◌, length}
use Rattle.certificate_format.specs.Regions.{next_from}
use Rattle.certificate_format.proofs.literals.next_of.Given as goal

abbrev pub invariant-atoms : goal.invariant-atoms
invariant-atoms l = record {
  next : next_from 0 l.fn.atoms l.atom ≡ next_from l.number l.rest l.atom;
  number : l.number + length l.rest ≡ length l.fn.atoms;
}

abbrev pub decreases-atoms : goal.decreases-atoms
decreases-atoms l = length l.rest
