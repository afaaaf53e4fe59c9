use Rattle.decision_tree.specs.View.{numbered}
use Rattle.lifted_analysis.specs.declared.noted.TurnTree.{TurnTree}
use Rattle.lifted_analysis.specs.Entries.{IsSizedTurn}
use Rattle.lifted_analysis.proofs.EntryLemmas.{turns_inserted, sized_as, all_inserted}
use Rattle.lifted_analysis.proofs.noted.add_turn.Goals as goal

pub returns-clause-turns : goal.returns-clause-turns
returns-clause-turns g c =
    λ v. turns_inserted g.L.Leaf.value c.args.noted.now.turns.items c.insert.new.self.items c.args.at c.args.place c.in_ok-entered.entered c.in_ok-head.head c.args.again
    (numbered c.args.entered.now) (numbered c.args.head.now) v c.in_ok-insert.ensures.items c.in_ok-entered.ensures c.in_ok-head.ensures

pub returns-clause-sized : goal.returns-clause-sized
returns-clause-sized g c =
    let value = g.L.Leaf.value in
    let family = c.args.family.now in
    all_inserted (λ (t : TurnTree g.row.L.Denot). IsSizedTurn value family t) c.args.noted.now.turns.items c.insert.new.self.items c.args.at
    (record { place = c.args.place; entered = c.in_ok-entered.entered; head = c.in_ok-head.head; again = c.args.again }) c.in_ok-insert.ensures.items
    (record {
      entered = sized_as value family (numbered c.args.entered.now) (numbered c.in_ok-entered.entered) c.in_ok-entered.ensures c.requires.entered;
      head = sized_as value family (numbered c.args.head.now) (numbered c.in_ok-head.head) c.in_ok-head.ensures c.requires.head;
      again = c.requires.again;
    })
