use Rattle.std.proofs.Common.{take, map}
use Rattle.alarm_report.specs.Invariants.{AreInvariants, leaf_tree, invariant}
use Rattle.alarm_report.specs.Known.{AreKnown}
use Rattle.alarm_report.proofs.invariants.invariants_of.Given as goal

abbrev pub invariant-trees : goal.invariant-trees
invariant-trees g l =
    let value = g.L.Leaf.value in
    record {
      invariants : AreInvariants l.prepared l.atoms (map (leaf_tree value) (take l.tree-index l.trees)) (map (invariant value) l.list.items);
      known : AreKnown l.prepared l.atoms l.known;
    }
