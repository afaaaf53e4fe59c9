use Rattle.std.proofs.Common.{◌≡◌, ◌++◌, drop, option_map}
use Rattle.serde_json.specs.Find.{as_str}
use Rattle.serde_json.specs.View.{items_view}
use Rattle.feature_model.specs.Shapes.{each}
use Rattle.feature_model.proofs.shapes.each_text.Given as goal

abbrev pub invariant-loop-value : goal.invariant-loop-value
invariant-loop-value l = each as_str (items_view l.list) ≡ option_map (λ more. l.texts.items ++ more) (each as_str (items_view (drop l.value-index l.list)))
