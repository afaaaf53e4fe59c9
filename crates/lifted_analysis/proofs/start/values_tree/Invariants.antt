use Rattle.std.proofs.Common.{◌≡◌, take}
use Rattle.lifted_analysis.specs.Start.{IsTreeAt, AreHeld, begins_at}
use Rattle.lifted_analysis.proofs.start.values_tree.Given as goal

abbrev pub invariant-loop-d : goal.invariant-loop-d
invariant-loop-d g l =
    record {
      made : IsTreeAt l.family (begins_at l.family l.start (take l.d-index l.d-items)) l.made;
      held : AreHeld l.family l.held;
      same : l.tables.leaves ≡ l.fn.tables.leaves;
    }
