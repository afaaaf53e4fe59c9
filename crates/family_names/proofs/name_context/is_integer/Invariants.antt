use Rattle.std.proofs.Common.{◌≡◌, drop}
use Rattle.family_names.specs.Names.{is_integer, feature_in}
use Rattle.family_names.proofs.name_context.is_integer.Given as goal

abbrev pub invariant-loop-feature : goal.invariant-loop-feature
invariant-loop-feature l = is_integer (feature_in l.features l.name) ≡ is_integer (feature_in (drop l.feature-index l.features) l.name)
