use Rattle.std.proofs.Common.{◌≡◌, ◌++◌, drop, option_map}
use Rattle.serde_json.specs.View.{items_view}
use Rattle.feature_model.specs.Shapes.{each, entry_of}
use Rattle.feature_model.proofs.shapes.entries_of.Given as goal

abbrev pub invariant-loop-value : goal.invariant-loop-value
invariant-loop-value l = each entry_of (items_view l.list) ≡ option_map (λ more. l.entries.items ++ more) (each entry_of (items_view (drop l.value-index l.list)))
