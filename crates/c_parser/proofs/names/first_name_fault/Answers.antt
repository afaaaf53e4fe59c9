use Rattle.std.proofs.Common.{take}
use Rattle.c_parser.specs.Judging.{counted}
use Rattle.c_parser.proofs.Holding.{walk_on, walk_to, walk_to_change}
use Rattle.c_parser.proofs.names.first_name_fault.Goals as goal

pub loop-item-preserved : goal.loop-item-preserved
loop-item-preserved c =
    let before = take c.loop-item.item-index c.args.items.now in
    let i = c.loop-item.invariant in
    let w = walk_on (counted c.args.limits) c.args.items.now c.loop-item.item-index _ c.judge.new.known c.follow.new.self c.in_ok-code.field-0 c.change_fault-change.result c.loop-item-test.true i.fault c.in_default.is c.in_default-change.is
    (c.in_ok-code.ensures before i.known i.held.track) (c.change_fault-change.ensures before i.known i.held c.args.limits) (c.in_ok-follow.ensures before i.known i.held) in
    record { known = w.known_is; held = w.held; fault = w.fault_is }

pub returns-in-Some : goal.returns-in-Some
returns-in-Some c =
    let before = take c.loop-item.item-index c.args.items.now in
    let i = c.loop-item.invariant in
    walk_to (counted c.args.limits) c.args.items.now c.loop-item.item-index _ c.judge.new.known c.in_ok-code.field-0 c.in-Some.code c.loop-item-test.true i.fault c.in-Some.is (c.in_ok-code.ensures before i.known i.held.track)

pub returns-in-Some-change : goal.returns-in-Some-change
returns-in-Some-change c =
    let before = take c.loop-item.item-index c.args.items.now in
    let i = c.loop-item.invariant in
    walk_to_change (counted c.args.limits) c.args.items.now c.loop-item.item-index _ c.judge.new.known c.in_ok-code.field-0 c.change_fault-change.result c.in-Some-change.fault c.loop-item-test.true i.fault c.in_default.is c.in-Some-change.is
    (c.in_ok-code.ensures before i.known i.held.track) (c.change_fault-change.ensures before i.known i.held c.args.limits)
