use Rattle.std.proofs.Common.{◌≡◌, take}
use Rattle.feature_values.proofs.declaring.declarator_copies.Given as goal

abbrev pub invariant-loop-d : goal.invariant-loop-d
invariant-loop-d l = l.made.items ≡ take l.d-index l.declared
