use Rattle.std.proofs.Common.{ap, ◌∙◌}
use Rattle.std.specs.Option.{unwrap_or}
use Rattle.lifted_analysis.proofs.LineIndexLemmas.{position_added}
use Rattle.lifted_analysis.proofs.line_index.add.Goals as goal

pub returns : goal.returns
returns c = λ q.
    position_added c.args.by_place.now.entries c.swap_remove.new.self.entries c.insert.new.self.entries c.args.place q c.args.position c.unwrap_or-positions.result c.push.new.self c.new.result c.new.ensures.items
    (c.unwrap_or-positions.ensures ∙ ap (λ o. unwrap_or o c.new.result) c.swap_remove.ensures.value)
    c.in_ok-push.ensures.items (c.swap_remove.ensures.updates.0 q) (c.in_ok-insert.ensures.updates.0 q)
