use Rattle.std.proofs.Common.{pos, ◌<◌, length, arith}
use Rattle.strides.specs.Strided.{point_at, narrowed}
use Rattle.product_leaf.specs.Laws.Parts.{read_own}
use Rattle.leaf_domain.proofs.Zipped.{zipped_next}
use Rattle.product_leaf.proofs.parts.narrowed.Goals as goal

pub narrowed-requires : goal.narrowed-requires
narrowed-requires c = read_own c.args.x.now c.loop-i.i (omega arith) c.requires.own

pub loop-i-preserved : goal.loop-i-preserved
loop-i-preserved c =
    let l : c.loop-i.i < length c.args.x.now = omega arith in
    let k : c.loop-i.i < length c.args.g.now = omega (arith, c.requires.same) in
    zipped_next (narrowed c.args.thresholds.now) (point_at (pos 0)) c.args.x.now c.args.g.now c.loop-i.made.items _ c.loop-i.i c.narrowed.result c.loop-i.invariant c.in_ok-push.ensures.items c.narrowed.ensures l k
