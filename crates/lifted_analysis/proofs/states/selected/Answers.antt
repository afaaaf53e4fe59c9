use Rattle.decision_tree.specs.View.{numbered, plain}
use Rattle.lifted_analysis.proofs.StateLemmas.{state_stays, selected_made}
use Rattle.lifted_analysis.proofs.states.selected.Goals as goal

pub kept-requires-2-clause-state : goal.kept-requires-2-clause-state
kept-requires-2-clause-state g c =
    state_stays g.L.Leaf.value c.args.family.now c.args.tables.now.leaves c.kept.new.tables.leaves (numbered c.args.u.now) c.in_ok-where_true.ensures.keeps c.requires.u

pub joined-requires-clause-t : goal.joined-requires-clause-t
joined-requires-clause-t g c =
    state_stays g.L.Leaf.value c.args.family.now c.kept.new.tables.leaves c.kept-2.new.tables.leaves (numbered c.in_ok-where_true.where_true) c.in_ok-where_false.ensures.keeps c.in_ok-where_true.ensures.state

pub returns : goal.returns
returns g c =
    selected_made g.L.Leaf.value c.args.family.now g.L.Leaf.meaning g.met.L.Leaf.laws c.joined.result (plain c.args.truth.now) c.args.tables.now.leaves c.kept.new.tables.leaves c.kept-2.new.tables.leaves c.joined.new.tables.leaves
    (numbered c.args.t.now) (numbered c.args.u.now) (numbered c.in_ok-where_true.where_true) (numbered c.in_ok-where_false.where_false)
    c.requires.t c.requires.u c.in_ok-where_true.ensures c.in_ok-where_false.ensures c.joined.ensures
