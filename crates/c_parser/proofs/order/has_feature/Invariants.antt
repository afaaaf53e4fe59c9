use Rattle.std.proofs.Common.{◌≡◌, map, drop}
use Rattle.std.specs.List.{list_any}
use Rattle.std.specs.Str.{bytes_eq}
use Rattle.c_parser.proofs.order.has_feature.Given as goal

abbrev pub invariant-loop-feature : goal.invariant-loop-feature
invariant-loop-feature l = list_any (bytes_eq l.name) (map (λ f. f.name) l.features) ≡ list_any (bytes_eq l.name) (map (λ f. f.name) (drop l.feature-index l.features))
