use Rattle.c_tree.specs.Tree.{Done, If}
use Rattle.c_tree.specs.View.{term}
use Rattle.decision_tree.specs.Plain.{leaf_of}
use Rattle.decision_tree.specs.View.{numbered, plain}
use Rattle.lifted_analysis.proofs.EntryLemmas.{entered_at_last, state_reduced}
use Rattle.lifted_analysis.proofs.noted.enter_test.Goals as goal

pub add_tree-requires : goal.add_tree-requires
add_tree-requires g c = state_reduced g.L.Leaf.value c.args.family.now c.args.tables.now.leaves (numbered c.args.t.now) c.requires.state

pub returns-clause-entered : goal.returns-clause-entered
returns-clause-entered g c =
    let tree = c.in_ok-add_tree.ensures in
    let one = c.in_ok-add_test_alarm.ensures in
    let two = c.in_ok-add_test_alarm-2.ensures in
    entered_at_last g.L.Leaf.value g.L.Leaf.meaning c.args.family.now c.add_test_alarm-3.result c.args.noted.now c.add_tree.new.noted c.add_test_alarm.new.noted c.add_test_alarm-2.new.noted c.add_test_alarm-3.new.noted c.args.place (If c.args.place (term c.args.test.now) Done Done Done) (λ v. g.L.Leaf.value (leaf_of (plain c.args.t.now) v))
    tree.leaves tree.trees tree.alarms tree.turns one.turns two.turns c.add_test_alarm-3.ensures.turns one.stops one.trees one.places two.stops two.trees two.places c.add_test_alarm-3.ensures.stops c.add_test_alarm-3.ensures.trees c.add_test_alarm-3.ensures.places
