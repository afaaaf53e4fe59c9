use Rattle.std.proofs.Common.{rules, ◌≡◌, ◌∷◌, ◌++◌, [], map, sym, subst, ap, ◌∙◌, Some, None}
use Rattle.alarm_report.specs.Adding.{AddsPath}
use Rattle.alarm_report.specs.Invariants.{invariant}
use Rattle.alarm_report.specs.Regions.{IsRegionOf}
use Rattle.alarm_report.proofs.Leading.{map_joined}
use Rattle.alarm_report.proofs.Placed.{placed, void_added, region_added}
use Rattle.alarm_report.proofs.invariants.push_invariant.Goals as goal

pub returns-in-None-clause-added : goal.returns-in-None-clause-added
returns-in-None-clause-added g c =
    let value = g.L.Leaf.value in
    let m = c.args.prepared.now in
    let p = c.args.path.now in
    let k : IsRegionOf m c.args.atoms.now p.turns None = search rules in
    void_added m c.args.atoms.now c.args.place (p.turns, value p.leaf.value.value) (map (invariant value) c.args.list.now.items) k

pub returns-in_ok-push-in-Some-clause-added : goal.returns-in_ok-push-in-Some-clause-added
returns-in_ok-push-in-Some-clause-added g c =
    let value = g.L.Leaf.value in
    let m = c.args.prepared.now in
    let p = c.args.path.now in
    let r = c.in-Some.region in
    let old = map (invariant value) c.args.list.now.items in
    let x = value p.leaf.value.value in
    let k : IsRegionOf m c.args.atoms.now p.turns (Some r) = search rules in
    let e : c.in_ok-leaf-in-Some.leaf.value ≡ p.leaf.value = search rules in
    let added : map (invariant value) c.push.new.self.items ≡ old ++ placed c.args.place r x ∷ [] =
    ap (map (invariant value)) c.in_ok-push-in-Some.ensures.items ∙ map_joined (invariant value) c.args.list.now.items _
    ∙ ap (λ k. old ++ placed c.args.place r (value k.value) ∷ []) e in
    subst (λ is. AddsPath m c.args.atoms.now c.args.place (p.turns, x) old is) (sym added) (region_added m c.args.atoms.now c.args.place (p.turns, x) old r k)
