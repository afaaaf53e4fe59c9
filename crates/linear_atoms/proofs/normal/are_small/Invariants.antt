use Rattle.std.proofs.Common.{◌≡◌, length}
use Rattle.linear_atoms.specs.Forms.{are_small}
use Rattle.linear_atoms.proofs.normal.are_small.Given as goal

abbrev pub invariant-terms : goal.invariant-terms
invariant-terms l = are_small l.rest ≡ are_small l.initial.rest

abbrev pub decreases-terms : goal.decreases-terms
decreases-terms l = length l.rest
