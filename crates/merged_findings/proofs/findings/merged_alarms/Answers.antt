use Rattle.std.proofs.Common.{refl}
use Rattle.decision_tree.specs.View.{numbered, plain}
use Rattle.decision_tree.proofs.Numbers.{keeps_both, tree_stays}
use Rattle.merged_findings.specs.Pairs.{IsMergedAlarm}
use Rattle.merged_findings.proofs.Pairing.{pairs_more}
use Rattle.merged_findings.proofs.findings.merged_alarms.Goals as goal

pub loop-alarm-preserved : goal.loop-alarm-preserved
loop-alarm-preserved g c = record {
  merged = pairs_more (IsMergedAlarm (plain c.args.care.now)) c.loop-alarm.alarm-index c.args.alarms.now c.loop-alarm.made.items c.push.new.self.items c.alarm-item.result (record { place = c.alarm-item.result.place; kind = c.alarm-item.result.kind; tree = c.in_ok-tree.tree })
      c.loop-alarm-test.true c.alarm-item.is c.in_ok-push.ensures.items c.loop-alarm.invariant.merged
      (record { place = refl; kind = refl; tree = c.in_ok-tree.ensures.merged });
  care = tree_stays 0 320 c.loop-alarm.tables.cares c.merged_truths.new.tables.cares (numbered c.args.care.now) c.merged_truths.ensures.cares c.loop-alarm.invariant.care;
  keeps = keeps_both c.args.tables.now.cares c.loop-alarm.tables.cares c.merged_truths.new.tables.cares c.loop-alarm.invariant.keeps c.merged_truths.ensures.cares;
}
