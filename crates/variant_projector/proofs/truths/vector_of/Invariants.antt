use Rattle.std.proofs.Common.{◌≡◌, ◌++◌, length}
use Rattle.linear_atoms.specs.Atoms.{AreAtoms}
use Rattle.cpp_conditions.specs.Numbering.{vector_at}
use Rattle.variant_projector.proofs.truths.vector_of.Given as goal

abbrev pub invariant-atoms : goal.invariant-atoms
invariant-atoms l = record {
  made : l.made.items ++ vector_at l.rest l.config.values ≡ vector_at l.atoms l.config.values;
  atoms : AreAtoms (length l.config.values) l.rest;
}

abbrev pub decreases-atoms : goal.decreases-atoms
decreases-atoms l = length l.rest
