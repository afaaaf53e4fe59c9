use Rattle.std.proofs.Common.{◌<◌, length, arith}
use Rattle.leaf_domain.specs.Ends.{widened_range}
use Rattle.leaf_domain.proofs.Variables.{each_read}
use Rattle.leaf_domain.proofs.Zipped.{zipped_next}
use Rattle.interval_leaf.specs.Intervals.{IsOwn}
use Rattle.interval_leaf.proofs.ranges.widened_ranges.Goals as goal

pub widened-requires : goal.widened-requires
widened-requires c =
    let l : c.loop-i.i < length c.args.g.now = omega (arith, c.requires.same) in
    (each_read IsOwn _ c.args.g.now c.loop-i.i l c.requires.own).low

pub loop-i-preserved : goal.loop-i-preserved
loop-i-preserved c =
    let l : c.loop-i.i < length c.args.x.now = omega arith in
    let k : c.loop-i.i < length c.args.g.now = omega (arith, c.requires.same) in
    zipped_next (widened_range c.args.thresholds.now) _ c.args.x.now c.args.g.now c.loop-i.made.items _ c.loop-i.i c.widened.result c.loop-i.invariant c.in_ok-push.ensures.items c.widened.ensures l k
