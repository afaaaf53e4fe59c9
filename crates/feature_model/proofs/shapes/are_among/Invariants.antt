use Rattle.std.proofs.Common.{◌≡◌}
use Rattle.std.specs.Prelude.{map}
use Rattle.serde_json.specs.View.{members_view}
use Rattle.feature_model.specs.Shapes.{are_among}
use Rattle.feature_model.proofs.shapes.are_among.Given as goal

abbrev pub invariant-loop-key : goal.invariant-loop-key
invariant-loop-key l = are_among (map (λ w. w.now) l.names) (members_view l.members.entries) ≡ are_among (map (λ w. w.now) l.names) (members_view l.key-iterator)
