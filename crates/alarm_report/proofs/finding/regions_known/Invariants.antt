use Rattle.std.proofs.Common.{take}
use Rattle.decision_tree.specs.Shown.{shown}
use Rattle.alarm_report.specs.Known.{AreKnown}
use Rattle.alarm_report.specs.Regions.{AreRegionsOf}
use Rattle.alarm_report.proofs.Covering.{to_true}
use Rattle.alarm_report.proofs.finding.regions_known.Given as goal

abbrev pub invariant-paths : goal.invariant-paths
invariant-paths l = record {
  listed : AreRegionsOf l.prepared l.atoms (to_true (shown (take l.path-index l.path-items))) l.list.items;
  known : AreKnown l.prepared l.atoms l.known;
}
