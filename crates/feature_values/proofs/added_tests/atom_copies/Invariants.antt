use Rattle.std.proofs.Common.{◌≡◌, take}
use Rattle.feature_values.proofs.added_tests.atom_copies.Given as goal

abbrev pub invariant-loop-atom : goal.invariant-loop-atom
invariant-loop-atom l = l.made.items ≡ take l.atom-index l.atoms
