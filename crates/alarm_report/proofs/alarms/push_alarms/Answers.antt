use Rattle.std.proofs.Common.{◌≡◌, [], ◌∷◌, ◌++◌, map, sym, subst, ap, ◌∙◌}
use Rattle.alarm_report.specs.Alarms.{AreAlarms, plain_alarm_tree, alarm_in}
use Rattle.alarm_report.proofs.Stops.{alarms_more}
use Rattle.alarm_report.proofs.alarms.push_alarms.Goals as goal

pub returns-clause-added : goal.returns-clause-added
returns-clause-added c =
    let m = c.args.prepared.now in
    let atoms = c.args.atoms.now in
    let t = plain_alarm_tree c.args.tree.now in
    let old = c.args.list.now.items in
    let rs = c.in_ok-regions.regions in
    let added : c.append.new.self.items ≡ old ++ map (alarm_in t.place t.kind) rs =
    c.in_ok-append.ensures.items ∙ ap (λ xs. old ++ xs) (c.in_ok-alarms.ensures ∙ ap (map (alarm_in t.place t.kind)) c.into_vec.ensures) in
    λ ts h. subst (λ xs. AreAlarms m atoms (ts ++ t ∷ []) xs) (sym added) (alarms_more m atoms ts old t rs h c.in_ok-regions.ensures.regions)
