use Rattle.std.proofs.Common.{take, rules}
use Rattle.family_names.specs.NameContexts.{plain}
use Rattle.family_names.proofs.Walking.{none_settled, walk_on, walk_to, walk_to_change}
use Rattle.family_names.proofs.judging.first_name_fault.Goals as goal

pub loop-item-init : goal.loop-item-init
loop-item-init c = record {
  seen = c.new-seen.ensures;
  used = c.new-used.ensures (plain c.args.context.now);
  settled = none_settled (plain c.args.context.now) c.new-seen.result c.new-settled.result c.new-seen.ensures c.new-settled.ensures.sound c.new-settled.ensures.outside c.new-settled.ensures.empty;
  held = c.new-constants.ensures;
  fault = search rules;
}

pub loop-item-preserved : goal.loop-item-preserved
loop-item-preserved c =
    let before = take c.loop-item.item-index c.args.items.now in
    let i = c.loop-item.invariant in
    let w = walk_on (plain c.args.context.now) c.args.items.now c.loop-item.item-index _ c.judge.new.seen c.judge.new.used c.judge.new.settled c.follow.new.self c.in_ok-code.field-0 c.in_ok-change.change c.loop-item-test.true i.fault c.in_default.is c.in_default-change.is
    (c.in_ok-code.ensures before i.seen i.used i.settled i.held.track) (c.in_ok-change.ensures before i.seen i.held) (c.in_ok-follow.ensures before i.seen i.held) in
    record { seen = w.seen_is; used = w.used_is; settled = w.settled_is; held = w.held; fault = w.fault_is }

pub returns-in-Some : goal.returns-in-Some
returns-in-Some c =
    let before = take c.loop-item.item-index c.args.items.now in
    let i = c.loop-item.invariant in
    walk_to (plain c.args.context.now) c.args.items.now c.loop-item.item-index _ c.judge.new.seen c.judge.new.used c.judge.new.settled c.in_ok-code.field-0 c.in-Some.code c.loop-item-test.true i.fault c.in-Some.is
    (c.in_ok-code.ensures before i.seen i.used i.settled i.held.track)

pub returns-in-Some-change : goal.returns-in-Some-change
returns-in-Some-change c =
    let before = take c.loop-item.item-index c.args.items.now in
    let i = c.loop-item.invariant in
    walk_to_change (plain c.args.context.now) c.args.items.now c.loop-item.item-index _ c.judge.new.seen c.judge.new.used c.judge.new.settled c.in_ok-code.field-0 c.in_ok-change.change c.in-Some-change.fault c.loop-item-test.true i.fault c.in_default.is c.in-Some-change.is
    (c.in_ok-code.ensures before i.seen i.used i.settled i.held.track) (c.in_ok-change.ensures before i.seen i.held)
