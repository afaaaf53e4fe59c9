use Rattle.std.proofs.Common.{refl}
use Rattle.decision_tree.specs.View.{numbered, plain}
use Rattle.decision_tree.proofs.Numbers.{keeps_both, tree_stays}
use Rattle.merged_findings.specs.Pairs.{IsMergedPlace}
use Rattle.merged_findings.proofs.Pairing.{pairs_more}
use Rattle.merged_findings.proofs.findings.merged_places.Goals as goal

pub loop-place-preserved : goal.loop-place-preserved
loop-place-preserved g c = record {
  merged = pairs_more (IsMergedPlace (plain c.args.care.now)) c.loop-place.place-index c.args.places.now c.loop-place.made.items c.push.new.self.items c.place-item.result (record { place = c.place-item.result.place; tree = c.in_ok-tree.tree })
      c.loop-place-test.true c.place-item.is c.in_ok-push.ensures.items c.loop-place.invariant.merged
      (record { place = refl; tree = c.in_ok-tree.ensures.merged });
  care = tree_stays 0 320 c.loop-place.tables.cares c.merged_leaves.new.tables.cares (numbered c.args.care.now) c.merged_leaves.ensures.cares c.loop-place.invariant.care;
  keeps = keeps_both c.args.tables.now.cares c.loop-place.tables.cares c.merged_leaves.new.tables.cares c.loop-place.invariant.keeps c.merged_leaves.ensures.cares;
}
