use Rattle.std.proofs.Common.{ap, map}
use Rattle.alarm_report.specs.Invariants.{invariant, leaf_tree}
use Rattle.famlint_families.proofs.States.{AreInvariantsFrom, invariants_from}
use Rattle.famlint_families.proofs.family.invariants_in.Goals as goal

pub returns-clause-good : goal.returns-clause-good
returns-clause-good g c = λ o r found.
    let l = c.args.line.now in
    let value = g.L.Leaf.value in
    let trees = map (leaf_tree value) c.as_slice.result.now in
    let invariants = map (invariant value) c.in_ok-invariants.invariants.items in
    let from : AreInvariantsFrom c.args.prepared.now c.items-atoms.result.now trees invariants =
    record { regions = c.in_ok-invariants.ensures.invariants; cover = c.in_ok-invariants.ensures.cover } in
    invariants_from value g.L.Leaf.meaning g.met.L.Leaf.laws l c.requires.line c.variants_are_projections.ensures.read c.leaf_texts_tell_stores.ensures c.args.findings.now
    c.args.prepared.now c.items-atoms.result.now c.requires.prepared c.items-atoms.ensures trees invariants from o r (c.transfer_is_sound.ensures.answers o.mode) found
    (ap (map (leaf_tree value)) c.as_slice.ensures.value)
