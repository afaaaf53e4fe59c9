use Rattle.std.proofs.Common.{pos, ◌<◌, length, arith}
use Rattle.strides.specs.Strided.{point_at, joined}
use Rattle.product_leaf.specs.Laws.Parts.{read_own}
use Rattle.leaf_domain.proofs.Zipped.{zipped_next}
use Rattle.product_leaf.proofs.parts.joined.Goals as goal

pub joined-requires-clause-first : goal.joined-requires-clause-first
joined-requires-clause-first c = read_own c.args.a.now c.loop-i.i (omega arith) c.requires.first

pub joined-requires-clause-second : goal.joined-requires-clause-second
joined-requires-clause-second c =
    let l : c.loop-i.i < length c.args.b.now = omega (arith, c.requires.same) in
    read_own c.args.b.now c.loop-i.i l c.requires.second

pub loop-i-preserved : goal.loop-i-preserved
loop-i-preserved c =
    let l : c.loop-i.i < length c.args.a.now = omega arith in
    let k : c.loop-i.i < length c.args.b.now = omega (arith, c.requires.same) in
    zipped_next joined (point_at (pos 0)) c.args.a.now c.args.b.now c.loop-i.made.items _ c.loop-i.i c.joined.result c.loop-i.invariant c.in_ok-push.ensures.items c.joined.ensures l k
