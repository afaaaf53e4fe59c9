use Rattle.std.proofs.Common.{◌≡◌, length}
use Rattle.configuration_advice.proofs.Added.{AreSoFar}
use Rattle.configuration_advice.proofs.feature_uses.uses_over.Given as goal

abbrev pub invariant-features : goal.invariant-features
invariant-features l = record {
  count : length l.uses.items ≡ l.feature-index;
  each : AreSoFar l.prepared l.features l.uses.items;
}
