use Rattle.std.proofs.Common.{◌≡◌, drop}
use Rattle.std.specs.List.{list_any}
use Rattle.std.specs.Str.{bytes_eq}
use Rattle.family_names.proofs.name_context.has_feature.Given as goal

abbrev pub invariant-loop-feature : goal.invariant-loop-feature
invariant-loop-feature l = list_any (λ f. bytes_eq f.name l.name) l.features ≡ list_any (λ f. bytes_eq f.name l.name) (drop l.feature-index l.features)
