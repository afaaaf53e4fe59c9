use Rattle.std.proofs.Common.{take}
use Rattle.decision_tree.specs.Listed.{IsTreeIn, Keeps}
use Rattle.decision_tree.specs.View.{numbered, plain}
use Rattle.merged_findings.specs.Pairs.{ArePairs, IsMergedAlarm}
use Rattle.merged_findings.proofs.findings.merged_alarms.Given as goal

-- the trees so far, and that the care stays a tree of its forest
abbrev pub invariant-loop-alarm : goal.invariant-loop-alarm
invariant-loop-alarm g l = record {
  merged : ArePairs (IsMergedAlarm (plain l.care)) (take l.alarm-index l.alarms) l.made.items;
  care : IsTreeIn 0 320 l.tables.cares (numbered l.care);
  keeps : Keeps l.initial.tables.cares l.tables.cares;
}
