use Rattle.std.proofs.Common.{◌≡◌, take}
use Rattle.configuration_advice.proofs.keeping.copies.Given as goal

abbrev pub invariant-loop-atom : goal.invariant-loop-atom
invariant-loop-atom l = l.list.items ≡ take l.atom-index l.atoms
