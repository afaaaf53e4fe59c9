use Rattle.std.proofs.Common.{length, take, map, sym, subst, ap, ◌≡◌, [], ◌∙◌}
use Rattle.decision_tree.specs.Paths.{paths_of}
use Rattle.decision_tree.specs.Shown.{shown}
use Rattle.decision_tree.specs.View.{plain}
use Rattle.lifted_analysis.specs.Promises.{valued}
use Rattle.alarm_report.specs.Invariants.{AreOfPaths, invariant}
use Rattle.alarm_report.specs.Invariants as invs
use Rattle.alarm_report.proofs.Dropped.{taken}
use Rattle.alarm_report.proofs.Leading.{values_of, paths_valued}
use Rattle.alarm_report.proofs.Placed.{leaf_path_below}
use Rattle.alarm_report.proofs.invariants.invariants_at.Goals as goal

pub paths-init : goal.paths-init
paths-init g c = record {
  listed = subst (λ is. AreOfPaths c.args.prepared.now c.args.atoms.now c.args.tree.now.place [] (map (invariant g.L.Leaf.value) is)) (sym c.new-list.ensures.items) invs.no_path;
  known = c.requires.known;
}

pub push_invariant-requires-clause-tests : goal.push_invariant-requires-clause-tests
push_invariant-requires-clause-tests g c =
    leaf_path_below (length c.args.atoms.now) (plain c.args.tree.now.tree) c.deref-path-items.result.now c.in_ok-paths.paths.items c.paths.path-index c.path-item.result
    c.requires.tests c.deref-path-items.ensures.value c.in_ok-paths.ensures c.paths-test.true c.path-item.is

pub returns-clause-made : goal.returns-clause-made
returns-clause-made g c =
    let value = g.L.Leaf.value in
    let t = plain c.args.tree.now.tree in
    let items = c.deref-path-items.result.now in
    let all : values_of value (shown (take c.paths.path-index items)) ≡ paths_of (valued value t) =
    ap (values_of value) (ap shown (taken items c.paths.path-index c.paths-test.false ∙ c.deref-path-items.ensures.value) ∙ c.in_ok-paths.ensures) ∙ sym (paths_valued value t) in
    subst (λ ps. AreOfPaths c.args.prepared.now c.args.atoms.now c.args.tree.now.place ps (map (invariant value) c.paths.list.items)) all c.paths.invariant.listed
