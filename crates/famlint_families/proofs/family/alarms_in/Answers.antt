use Rattle.famlint_families.proofs.Foretold.{AreAlarmsFrom, alarms_from}
use Rattle.famlint_families.proofs.family.alarms_in.Goals as goal

pub returns-clause-good : goal.returns-clause-good
returns-clause-good g c = λ o r found.
    let l = c.args.line.now in
    let alarms = c.in_ok-alarms.alarms in
    let from : AreAlarmsFrom c.args.prepared.now c.items-atoms.result.now c.as_slice.result.now alarms =
    record { regions = c.in_ok-alarms.ensures.alarms; cover = c.in_ok-alarms.ensures.cover; fit = c.in_ok-alarms.ensures.fit } in
    alarms_from g.L.Leaf.value g.L.Leaf.meaning g.met.L.Leaf.laws l c.requires.line c.variants_are_projections.ensures.read c.args.findings.now
    c.args.prepared.now c.items-atoms.result.now c.requires.prepared c.items-atoms.ensures c.as_slice.result.now c.as_slice.ensures.value alarms from o r found
