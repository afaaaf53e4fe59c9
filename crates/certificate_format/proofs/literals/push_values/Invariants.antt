use Rattle.std.proofs.Common.{◌≡◌, ◌+◌, ◌++◌, length}
use Rattle.linear_atoms.specs.Atoms.{AreAtoms}
use Rattle.certificate_format.specs.Rows.{values_from}
use Rattle.certificate_format.proofs.literals.push_values.Given as goal

-- what stands, and what is left, are all
abbrev pub invariant-atoms : goal.invariant-atoms
invariant-atoms l = record {
  rows : l.rows.items ++ values_from l.features l.atoms l.number l.rest ≡ l.fn.rows.items ++ values_from l.features l.atoms 0 l.atoms;
  atoms : AreAtoms (length l.features) l.rest;
  number : l.number + length l.rest ≡ length l.atoms;
}

abbrev pub decreases-atoms : goal.decreases-atoms
decreases-atoms l = length l.rest
