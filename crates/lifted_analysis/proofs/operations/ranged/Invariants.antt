use Rattle.std.proofs.Common.{◌≡◌, drop}
use Rattle.lifted_analysis.specs.Lines.{set_from}
use Rattle.lifted_analysis.proofs.operations.ranged.Given as goal

-- the variables that are left are still to be set
abbrev pub invariant-loop-range : goal.invariant-loop-range
invariant-loop-range g l =
    let value = g.L.Leaf.value in
    record {
      made : set_from g.L.Leaf.meaning l.range-index (drop l.range-index l.ranges) (value l.made) ≡ set_from g.L.Leaf.meaning 0 l.ranges (value l.leaf);
      x : l.x ≡ l.range-index;
      same : (value l.made).variables ≡ (value l.leaf).variables;
    }
