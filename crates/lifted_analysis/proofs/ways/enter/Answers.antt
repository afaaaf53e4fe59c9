use Rattle.lifted_analysis.proofs.WaysLemmas.{entered_made}
use Rattle.lifted_analysis.proofs.ways.enter.Goals as goal

pub returns : goal.returns
returns g c =
    entered_made g.L.Leaf.value c.args.family.now c.args.tables.now.leaves c.nothing_tree.new.tables.leaves c.args.behind c.in_ok-broke.broke c.in_ok-continued.continued c.in_ok-returned.returned
    c.requires.state c.in_ok-broke.ensures c.in_ok-continued.ensures c.in_ok-returned.ensures
