use Rattle.std.proofs.Common.{take, map}
use Rattle.decision_tree.specs.Shown.{shown}
use Rattle.alarm_report.specs.Invariants.{AreOfPaths, invariant}
use Rattle.alarm_report.specs.Known.{AreKnown}
use Rattle.alarm_report.proofs.Leading.{values_of}
use Rattle.alarm_report.proofs.invariants.invariants_at.Given as goal

abbrev pub invariant-paths : goal.invariant-paths
invariant-paths g l =
    let value = g.L.Leaf.value in
    record {
      listed : AreOfPaths l.prepared l.atoms l.place (values_of value (shown (take l.path-index l.path-items))) (map (invariant value) l.list.items);
      known : AreKnown l.prepared l.atoms l.known;
    }
