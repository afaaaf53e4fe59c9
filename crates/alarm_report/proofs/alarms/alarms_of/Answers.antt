use Rattle.std.proofs.Common.{length, map, sym, subst, ap, []}
use Rattle.alarm_report.specs.Alarms.{AreAlarms, plain_alarm_tree}
use Rattle.alarm_report.specs.Alarms as stops
use Rattle.alarm_report.proofs.Dropped.{taken}
use Rattle.alarm_report.proofs.Recalled.{none_known}
use Rattle.alarm_report.proofs.Stops.{covers_stops, alarms_fit, seen_below}
use Rattle.alarm_report.proofs.alarms.alarms_of.Goals as goal

pub trees-init : goal.trees-init
trees-init c = record {
  alarms = subst (λ xs. AreAlarms c.args.prepared.now c.args.atoms.now [] xs) (sym c.new-list.ensures.items) stops.no_tree;
  known = none_known c.args.prepared.now c.args.atoms.now c.new-known.result c.new-known.ensures;
}

pub returns-clause-alarms : goal.returns-clause-alarms
returns-clause-alarms c =
    let m = c.args.prepared.now in
    let atoms = c.args.atoms.now in
    let all = ap (map plain_alarm_tree) (taken c.args.trees.now c.trees.tree-index c.trees-test.false) in
    subst (λ xs. AreAlarms m atoms (map plain_alarm_tree c.args.trees.now) xs) (sym c.from_vec.ensures)
    (subst (λ ts. AreAlarms m atoms ts c.trees.list.items) all c.trees.invariant.alarms)

pub returns-clause-cover : goal.returns-clause-cover
returns-clause-cover c =
    let m = c.args.prepared.now in
    let atoms = c.args.atoms.now in
    let ts = map plain_alarm_tree c.args.trees.now in
    λ keyed. covers_stops m atoms ts c.from_vec.result (seen_below (length atoms) c.args.trees.now c.requires.tests) keyed (returns-clause-alarms c)

pub returns-clause-fit : goal.returns-clause-fit
returns-clause-fit c =
    let m = c.args.prepared.now in
    let atoms = c.args.atoms.now in
    let ts = map plain_alarm_tree c.args.trees.now in
    alarms_fit m atoms (length m.features) ts c.from_vec.result c.requires.atoms (seen_below (length atoms) c.args.trees.now c.requires.tests) (returns-clause-alarms c)
