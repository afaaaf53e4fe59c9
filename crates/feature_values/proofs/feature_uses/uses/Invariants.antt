use Rattle.std.proofs.Common.{◌≡◌, ◌++◌, ◌+◌, length}
use Rattle.feature_values.specs.Values.{uses_from}
use Rattle.feature_values.proofs.feature_uses.uses.Given as goal

abbrev pub invariant-names : goal.invariant-names
invariant-names l = record {
  made : l.made.items ++ uses_from l.fn.features l.number l.rest ≡ uses_from l.fn.features 0 l.fn.names;
  left : l.number + length l.rest ≡ length l.fn.names;
}

abbrev pub decreases-names : goal.decreases-names
decreases-names l = length l.rest
