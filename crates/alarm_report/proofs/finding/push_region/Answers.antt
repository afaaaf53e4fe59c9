use Rattle.std.proofs.Common.{rules, true, ◌≡◌, subst, sym, Some, None}
use Rattle.alarm_report.specs.Adding.{Adds}
use Rattle.alarm_report.specs.Regions.{IsRegionOf}
use Rattle.alarm_report.proofs.Covering.{void_added, region_added}
use Rattle.alarm_report.proofs.finding.push_region.Goals as goal

pub returns-in-None-clause-added : goal.returns-in-None-clause-added
returns-in-None-clause-added c =
    let m = c.args.prepared.now in
    let p = c.args.path.now in
    let e : p.leaf.value.value ≡ true = search rules in
    let k : IsRegionOf m c.args.atoms.now p.turns None = search rules in
    void_added m c.args.atoms.now p.turns p.leaf.value.value c.args.list.now.items e k

pub returns-in_ok-push-in-Some-clause-added : goal.returns-in_ok-push-in-Some-clause-added
returns-in_ok-push-in-Some-clause-added c =
    let m = c.args.prepared.now in
    let p = c.args.path.now in
    let e : p.leaf.value.value ≡ true = search rules in
    let k : IsRegionOf m c.args.atoms.now p.turns (Some c.in-Some.region) = search rules in
    subst (λ xs. Adds m c.args.atoms.now (p.turns, p.leaf.value.value) c.args.list.now.items xs) (sym c.in_ok-push-in-Some.ensures.items)
    (region_added m c.args.atoms.now p.turns p.leaf.value.value c.args.list.now.items c.in-Some.region e k)
