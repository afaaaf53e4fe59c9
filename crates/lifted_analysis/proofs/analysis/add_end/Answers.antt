use Rattle.lifted_analysis.proofs.Answered.{ended_made}
use Rattle.lifted_analysis.proofs.analysis.add_end.Goals as goal

pub returns : goal.returns
returns g c =
    let one = c.in_ok-add_never.ensures in
    let two = c.in_ok-add_never-2.ensures in
    ended_made g.L.Leaf.value c.args.family.now c.add_never-3.result c.args.noted.now c.add_never.new.noted c.add_never-2.new.noted c.add_never-3.new.noted c.push.new.self.items c.args.place c.args.tree
    c.requires.tree c.in_ok-push.ensures.items one.places one.stops one.trees two.stops two.trees two.places c.add_never-3.ensures.stops c.add_never-3.ensures.trees c.add_never-3.ensures.places one.turns two.turns c.add_never-3.ensures.turns
