use Rattle.std.proofs.Common.{length, map, sym, subst, ap, []}
use Rattle.alarm_report.specs.Invariants.{AreInvariants, leaf_tree, invariant}
use Rattle.alarm_report.specs.Invariants as invs
use Rattle.alarm_report.proofs.Dropped.{taken}
use Rattle.alarm_report.proofs.Recalled.{none_known}
use Rattle.alarm_report.proofs.Placed.{covers_places, invariants_fit, seen_leaves_below, seen_fit}
use Rattle.alarm_report.proofs.invariants.invariants_of.Goals as goal

pub trees-init : goal.trees-init
trees-init g c = record {
  invariants = subst (λ xs. AreInvariants c.args.prepared.now c.args.atoms.now [] (map (invariant g.L.Leaf.value) xs)) (sym c.new-list.ensures.items) invs.no_tree;
  known = none_known c.args.prepared.now c.args.atoms.now c.new-known.result c.new-known.ensures;
}

pub returns-clause-invariants : goal.returns-clause-invariants
returns-clause-invariants g c =
    let value = g.L.Leaf.value in
    let all = ap (map (leaf_tree value)) (taken c.args.trees.now c.trees.tree-index c.trees-test.false) in
    subst (λ ts. AreInvariants c.args.prepared.now c.args.atoms.now ts (map (invariant value) c.trees.list.items)) all c.trees.invariant.invariants

pub returns-clause-cover : goal.returns-clause-cover
returns-clause-cover g c =
    let value = g.L.Leaf.value in
    let atoms = c.args.atoms.now in
    λ apart. covers_places c.args.prepared.now atoms (map (leaf_tree value) c.args.trees.now) (map (invariant value) c.trees.list.items)
    (seen_leaves_below value (length atoms) c.args.trees.now c.requires.tests) apart (returns-clause-invariants g c)

pub returns-clause-fit : goal.returns-clause-fit
returns-clause-fit g c =
    let value = g.L.Leaf.value in
    let m = c.args.prepared.now in
    let atoms = c.args.atoms.now in
    seen_fit value (length m.features) c.trees.list.items
    (invariants_fit m atoms (length m.features) (map (leaf_tree value) c.args.trees.now) (map (invariant value) c.trees.list.items) c.requires.atoms
    (seen_leaves_below value (length atoms) c.args.trees.now c.requires.tests) (returns-clause-invariants g c))
