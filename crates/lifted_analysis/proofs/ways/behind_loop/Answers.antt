use Rattle.lifted_analysis.proofs.WaysLemmas.{behind_loop_made}
use Rattle.lifted_analysis.proofs.ways.behind_loop.Goals as goal

pub returns : goal.returns
returns g c =
    behind_loop_made g.L.Leaf.value c.args.family.now g.L.Leaf.meaning g.met.L.Leaf.laws c.args.tables.now.leaves c.joined.new.tables.leaves c.joined-2.new.tables.leaves c.args.ways c.args.failed.now c.args.body.now c.in_ok-behind.behind c.in_ok-returned.returned
    c.requires.states c.requires.failed c.requires.body c.in_ok-behind.ensures c.in_ok-returned.ensures
