use Rattle.std.proofs.Common.{take, map}
use Rattle.alarm_report.specs.Alarms.{AreAlarms, plain_alarm_tree}
use Rattle.alarm_report.specs.Known.{AreKnown}
use Rattle.alarm_report.proofs.alarms.alarms_of.Given as goal

abbrev pub invariant-trees : goal.invariant-trees
invariant-trees l = record {
  alarms : AreAlarms l.prepared l.atoms (map plain_alarm_tree (take l.tree-index l.trees)) l.list.items;
  known : AreKnown l.prepared l.atoms l.known;
}
