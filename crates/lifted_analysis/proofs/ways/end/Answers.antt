use Rattle.lifted_analysis.proofs.WaysLemmas.{end_made}
use Rattle.lifted_analysis.proofs.ways.end.Goals as goal

pub returns : goal.returns
returns g c =
    end_made g.L.Leaf.value c.args.family.now g.L.Leaf.meaning g.met.L.Leaf.laws c.joined-3.result c.args.tables.now.leaves c.joined.new.tables.leaves c.joined-2.new.tables.leaves c.joined-3.new.tables.leaves
    c.args.ways.now c.in_ok-with_returned.with_returned c.in_ok-with_broke.with_broke c.requires c.in_ok-with_returned.ensures c.in_ok-with_broke.ensures c.joined-3.ensures
