use Rattle.std.proofs.Common.{◌≡◌, take, map, List, Bool}
use Rattle.std.specs.List.{All}
use Rattle.fam_outer.specs.declared.faults.Place.{Place}
use Rattle.decision_tree.specs.View.{numbered}
use Rattle.lifted_analysis.specs.declared.noted.TurnTree.{TurnTree}
use Rattle.lifted_analysis.specs.declared.findings.LoopTree.{LoopTree}
use Rattle.lifted_analysis.specs.Entries.{turn_there, IsReducedTree}
use Rattle.lifted_analysis.specs.Pass.{loop_there}
use Rattle.lifted_analysis.specs.Turns.{is_inductive}
use Rattle.lifted_analysis.proofs.pass.loop_trees.Given as goal

-- the trees of the loops so far
abbrev pub invariant-loop-turn : goal.invariant-loop-turn
invariant-loop-turn g l =
    record {
      at_each : (v : List Bool) → map (loop_there v) l.made.items ≡ map {B = Place × Bool} (λ (t : TurnTree g.row.L.Denot). (t.place, is_inductive g.L.Leaf.meaning (turn_there g.L.Leaf.value v t))) (take l.turn-index l.turns);
      reduced : All (λ (x : LoopTree). IsReducedTree l.family (numbered x.tree)) l.made.items;
    }
