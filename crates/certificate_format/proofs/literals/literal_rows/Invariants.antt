use Rattle.std.proofs.Common.{◌≡◌, ◌+◌, ◌++◌, length}
use Rattle.linear_atoms.specs.Atoms.{AreAtoms}
use Rattle.certificate_format.specs.Rows.{rows_from}
use Rattle.certificate_format.proofs.literals.literal_rows.Given as goal

abbrev pub invariant-atoms : goal.invariant-atoms
invariant-atoms l = record {
  rows : l.rows.items ++ rows_from l.features l.number l.rest ≡ rows_from l.features 0 l.fn.atoms;
  atoms : AreAtoms (length l.features) l.rest;
  number : l.number + length l.rest ≡ length l.fn.atoms;
}

abbrev pub decreases-atoms : goal.decreases-atoms
decreases-atoms l = length l.rest
