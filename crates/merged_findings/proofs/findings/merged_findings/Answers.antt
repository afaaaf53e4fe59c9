use Rattle.cpp_conditions.specs.View.{formula}
use Rattle.merged_findings.specs.Pairs.{AreMerged}
use Rattle.merged_findings.proofs.Promised.{if_merged, place_keys, alarm_keys, place_trees, alarm_trees}
use Rattle.merged_findings.proofs.findings.merged_findings.Goals as goal

pub returns-clause-place_keys : goal.returns-clause-place_keys
returns-clause-place_keys g c =
    let p = formula c.args.plausible.now in
    if_merged c.merged_counted.result (AreMerged p c.args.findings.now) _ (λ made h. place_keys g.L.Leaf.value (c.equality_is_exact.ensures.value) p c.args.findings.now made h) c.merged_counted.ensures

pub returns-clause-alarm_keys : goal.returns-clause-alarm_keys
returns-clause-alarm_keys g c =
    let p = formula c.args.plausible.now in
    if_merged c.merged_counted.result (AreMerged p c.args.findings.now) _ (λ made h. alarm_keys g.L.Leaf.value (c.equality_is_exact.ensures.value) p c.args.findings.now made h) c.merged_counted.ensures

pub returns-clause-trees : goal.returns-clause-trees
returns-clause-trees g c =
    let p = formula c.args.plausible.now in
    if_merged c.merged_counted.result (AreMerged p c.args.findings.now) _ (λ made h m f below all. place_trees g.L.Leaf.value (c.equality_is_exact.ensures.value) p c.args.findings.now made h m below f all) c.merged_counted.ensures

pub returns-clause-alarm_trees : goal.returns-clause-alarm_trees
returns-clause-alarm_trees g c =
    let p = formula c.args.plausible.now in
    if_merged c.merged_counted.result (AreMerged p c.args.findings.now) _ (λ made h m f below all. alarm_trees g.L.Leaf.value (c.equality_is_exact.ensures.value) p c.args.findings.now made h m below f all) c.merged_counted.ensures
