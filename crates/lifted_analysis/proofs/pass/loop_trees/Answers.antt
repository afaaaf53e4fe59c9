use Rattle.std.proofs.Common.{◌∙◌, ap, sym, subst, arith, map}
use Rattle.std.specs.List.{All}
use Rattle.std.proofs.lemmas.List.{take_all}
use Rattle.std.proofs.lemmas.List.Elements.{All-nil}
use Rattle.decision_tree.specs.View.{numbered}
use Rattle.lifted_analysis.specs.declared.noted.TurnTree.{TurnTree}
use Rattle.lifted_analysis.specs.declared.findings.LoopTree.{LoopTree}
use Rattle.lifted_analysis.specs.Entries.{IsReducedTree, IsSizedTurn}
use Rattle.lifted_analysis.specs.Pass.{loop_there}
use Rattle.lifted_analysis.proofs.EntryLemmas.{reduced_push}
use Rattle.lifted_analysis.proofs.PassAnswered.{loop_more, both_same}
use Rattle.lifted_analysis.proofs.pass.loop_trees.Goals as goal

pub loop-turn-init : goal.loop-turn-init
loop-turn-init g c = record {
  at_each = λ v. ap (map (loop_there v)) c.new-made.ensures.items;
  reduced = subst (All (λ (x : LoopTree). IsReducedTree c.args.family.now (numbered x.tree))) (sym c.new-made.ensures.items) (All-nil (λ (x : LoopTree). IsReducedTree c.args.family.now (numbered x.tree)));
}

pub below-requires-clause-t : goal.below-requires-clause-t
below-requires-clause-t g c =
    (subst (λ (t : TurnTree g.row.L.Denot). IsSizedTurn g.L.Leaf.value c.args.family.now t) (sym c.turn-item.is) (c.requires c.loop-turn.turn-index c.turn-item.result c.loop-turn-test.true)).entered

pub below-requires-clause-u : goal.below-requires-clause-u
below-requires-clause-u g c =
    (subst (λ (t : TurnTree g.row.L.Denot). IsSizedTurn g.L.Leaf.value c.args.family.now t) (sym c.turn-item.is) (c.requires c.loop-turn.turn-index c.turn-item.result c.loop-turn-test.true)).head

pub below-requires-in-loop-turn-clause-t : goal.below-requires-in-loop-turn-clause-t
below-requires-in-loop-turn-clause-t g c =
    (subst (λ (t : TurnTree g.row.L.Denot). IsSizedTurn g.L.Leaf.value c.args.family.now t) (sym c.turn-item.is) (c.requires c.loop-turn.turn-index c.turn-item.result c.loop-turn-test.true)).again

pub below-requires-in-loop-turn-clause-u : goal.below-requires-in-loop-turn-clause-u
below-requires-in-loop-turn-clause-u g c =
    (subst (λ (t : TurnTree g.row.L.Denot). IsSizedTurn g.L.Leaf.value c.args.family.now t) (sym c.turn-item.is) (c.requires c.loop-turn.turn-index c.turn-item.result c.loop-turn-test.true)).head

pub loop-turn-preserved : goal.loop-turn-preserved
loop-turn-preserved g c =
    let family = c.args.family.now in
    let tree = c.in_ok-tree.tree in
    record {
      at_each = λ v. loop_more g.L.Leaf.value g.L.Leaf.meaning c.args.turns.now c.loop-turn.turn-index c.turn-item.result c.loop-turn.made.items c.push.new.self.items tree v c.loop-turn-test.true c.turn-item.is c.in_ok-push.ensures.items
          (c.in_ok-tree.ensures.at_each v ∙ both_same _ _ _ _ (c.in_ok-entered.ensures.at_each v) (c.in_ok-again.ensures.at_each v))
          (c.loop-turn.invariant.at_each v);
      reduced = reduced_push (λ (x : LoopTree). IsReducedTree family (numbered x.tree)) c.loop-turn.made.items c.push.new.self.items (record { place = c.turn-item.result.place; tree = tree }) c.in_ok-push.ensures.items
          (record { tree = c.in_ok-tree.ensures.truth.tree; tests = c.in_ok-tree.ensures.truth.tests }) c.loop-turn.invariant.reduced;
    }

pub returns-clause-at_each : goal.returns-clause-at_each
returns-clause-at_each g c =
    λ v. c.loop-turn.invariant.at_each v ∙ ap (map _) (take_all c.loop-turn.turn-index c.args.turns.now (omega (arith, c.loop-turn-test.false)))
