use Rattle.std.proofs.Common.{length, take, sym, subst, ap, ◌≡◌, [], ◌∙◌}
use Rattle.decision_tree.specs.Paths.{paths_of}
use Rattle.decision_tree.specs.Shown.{shown}
use Rattle.decision_tree.specs.View.{plain}
use Rattle.alarm_report.specs.Regions as of
use Rattle.alarm_report.specs.Regions.{AreRegionsOf, AreRegions}
use Rattle.alarm_report.proofs.Covering.{path_below, all_below, to_true}
use Rattle.alarm_report.proofs.Dropped.{taken}
use Rattle.alarm_report.proofs.Meeting.{covers}
use Rattle.alarm_report.proofs.finding.regions_known.Goals as goal

pub paths-init : goal.paths-init
paths-init c = record {
  listed = subst (λ rs. AreRegionsOf c.args.prepared.now c.args.atoms.now [] rs) (sym c.new-list.ensures.items) of.no_path;
  known = c.requires.known;
}

pub push_region-requires-clause-tests : goal.push_region-requires-clause-tests
push_region-requires-clause-tests c =
    path_below (length c.args.atoms.now) (plain c.args.tree.now) c.deref-path-items.result.now c.in_ok-paths.paths.items c.paths.path-index c.path-item.result
    c.requires.tests c.deref-path-items.ensures.value c.in_ok-paths.ensures c.paths-test.true c.path-item.is

pub returns-clause-cover : goal.returns-clause-cover
returns-clause-cover c =
    let m = c.args.prepared.now in
    let atoms = c.args.atoms.now in
    let t = plain c.args.tree.now in
    let items = c.deref-path-items.result.now in
    let all : shown (take c.paths.path-index items) ≡ paths_of t =
    ap shown (taken items c.paths.path-index c.paths-test.false ∙ c.deref-path-items.ensures.value) ∙ c.in_ok-paths.ensures in
    let listed : AreRegionsOf m atoms (to_true (paths_of t)) c.paths.list.items = subst (λ ps. AreRegionsOf m atoms (to_true ps) c.paths.list.items) all c.paths.invariant.listed in
    let are : AreRegions m atoms t c.from_vec.result = subst (λ rs. AreRegions m atoms t rs) (sym c.from_vec.ensures) listed in
    covers m atoms t c.from_vec.result (all_below (length atoms) t c.requires.tests) (c.vectors_take_one_path.ensures t) are
