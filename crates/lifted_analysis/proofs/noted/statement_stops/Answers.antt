use Rattle.decision_tree.specs.View.{numbered}
use Rattle.lifted_analysis.proofs.StateLemmas.{state_numbered}
use Rattle.lifted_analysis.proofs.EntryLemmas.{stops_reduced}
use Rattle.lifted_analysis.proofs.noted.statement_stops.Goals as goal

pub map_in-requires-clause-t : goal.map_in-requires-clause-t
map_in-requires-clause-t g c = state_numbered g.L.Leaf.value c.args.family.now c.args.tables.now.leaves (numbered c.args.t.now) c.requires.state

pub returns-clause-reduced : goal.returns-clause-reduced
returns-clause-reduced g c =
    stops_reduced c.map_in.result g.L.Leaf.value c.args.family.now c.args.tables.now.leaves c.map_in.new.forest (numbered c.args.t.now) c.requires.state c.map_in.ensures.tests c.map_in.ensures.tree
