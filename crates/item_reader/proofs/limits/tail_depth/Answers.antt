use Rattle.std.proofs.Common.{ap, sym, arith}
use Rattle.item_reader.specs.Limits.{capped}
use Rattle.item_reader.proofs.Depths.{tails_none, tails_more}
use Rattle.item_reader.proofs.limits.tail_depth.Goals as goal

pub loop-part-init : goal.loop-part-init
loop-part-init c = ap capped (sym tails_none)

pub loop-part-preserved : goal.loop-part-preserved
loop-part-preserved c =
    let more = tails_more c.args.parts.now c.loop-part.part-index c.part-item.result c.loop-part-test.true c.part-item.is in
    omega (arith, more, c.conditions.ensures)
