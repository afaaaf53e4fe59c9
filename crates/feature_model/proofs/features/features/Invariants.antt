use Rattle.std.proofs.Common.{◌≡◌, take, map}
use Rattle.feature_model.specs.Features.{feature}
use Rattle.feature_model.proofs.features.features.Given as goal

abbrev pub invariant-loop-entry : goal.invariant-loop-entry
invariant-loop-entry l = l.made.items ≡ map feature (take l.entry-index l.entries)
