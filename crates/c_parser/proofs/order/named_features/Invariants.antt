use Rattle.std.proofs.Common.{◌≡◌, [], map, drop}
use Rattle.std.specs.List.{filter, list_any}
use Rattle.std.specs.Str.{bytes_eq}
use Rattle.c_parser.specs.Names.{each_once}
use Rattle.c_parser.proofs.order.named_features.Given as goal

abbrev pub invariant-loop-feature : goal.invariant-loop-feature
invariant-loop-feature l = each_once l.named.items (filter (λ f. list_any (bytes_eq f) l.names) (map (λ f. f.name) (drop l.feature-index l.features)))
    ≡ each_once [] (filter (λ f. list_any (bytes_eq f) l.names) (map (λ f. f.name) l.features))
