use Rattle.std.proofs.Common.{◌≡◌, take}
use Rattle.feature_model.specs.Settings.{unset}
use Rattle.feature_model.proofs.settings.unset.Given as goal

abbrev pub invariant-loop-feature : goal.invariant-loop-feature
invariant-loop-feature l = l.slots.items ≡ unset (take l._feature-index l.features)
