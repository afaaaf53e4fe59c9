use Rattle.std.proofs.Common.{◌∙◌, take}
use Rattle.c_parser.proofs.Ordering.{item_on}
use Rattle.c_parser.proofs.order.first_classes.Goals as goal

pub loop-item-preserved : goal.loop-item-preserved
loop-item-preserved c =
    let i = c.loop-item.invariant in
    let before = take c.loop-item.item-index c.args.items.now in
    let on = item_on c.args.count c.args.items.now c.loop-item.item-index _ c.loop-item.in_main c.stands_in_main-in_main.result c.follow.new.self c.loop-item.kept.items c.keep_declared.new.kept.items c.loop-item-test.true i.main c.stands_in_main-in_main.ensures
    (c.keep_declared.ensures.first before i.main i.track) i.first i.fit (c.follow.ensures before i.track) in
    record { count = c.keep_declared.ensures.count ∙ i.count; fit = on.fit; main = on.main; track = on.track_is; first = on.first }
