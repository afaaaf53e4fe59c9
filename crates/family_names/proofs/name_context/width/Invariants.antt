use Rattle.std.proofs.Common.{◌≡◌, drop}
use Rattle.family_names.specs.Names.{width_or_none, feature_in}
use Rattle.family_names.proofs.name_context.width.Given as goal

abbrev pub invariant-loop-feature : goal.invariant-loop-feature
invariant-loop-feature l = width_or_none (feature_in l.features l.name) ≡ width_or_none (feature_in (drop l.feature-index l.features) l.name)
