use Rattle.std.proofs.Common.{rules, ◌<◌, ◌≤◌, length}
use Rattle.alarm_report.proofs.Dropped.{kept_going, dropped_going, all_stand}
use Rattle.alarm_report.proofs.dropping.standing.Goals as goal

pub literals-preserved-then-not-branch : goal.literals-preserved-then-not-branch
literals-preserved-then-not-branch c =
    let within : c.literals.place < length c.literals.left.items = search rules in
    kept_going c.args.prepared.now _ _ c.args.literals.items c.literals.place c.in_ok-drop_implied.field-0 c.in_ok-drop_implied.ensures c.if-not-branch.true within c.literals.invariant

pub literals-preserved : goal.literals-preserved
literals-preserved c =
    let within : c.literals.place < length c.literals.left.items = search rules in
    dropped_going c.args.prepared.now _ _ c.args.literals.items c.literals.place c.in_ok-drop_implied.field-0 c.in_ok-drop_implied.ensures c.if-not-branch.false within c.literals.invariant

pub returns : goal.returns
returns c =
    let past : length c.literals.left.items ≤ c.literals.place = search rules in
    all_stand c.args.prepared.now c.literals.left.items c.args.literals.items c.literals.place past c.literals.invariant.leads
