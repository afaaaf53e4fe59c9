use Rattle.c_tree.specs.View.{whole}
use Rattle.plain_analysis.proofs.Recursion.{loops_settle, finals_are_inductive}
use Rattle.lifted_analysis.specs.Findings.{AreFindings}
use Rattle.lifted_analysis.proofs.Answered.{variant_runs}
use Rattle.lifted_analysis.proofs.StateLemmas.{if_ok_by}
use Rattle.lifted_analysis.proofs.analysis.analyse_family.Goals as goal

pub returns-clause-runs : goal.returns-clause-runs
returns-clause-runs g c =
    let o = c.args.options.now in
    let sound = c.transfer_is_sound.ensures in
    λ v. variant_runs g.L.Leaf.meaning g.met.L.Leaf.laws o (sound.answers o.mode) (sound.holds o.mode) (whole c.args.code.now) c.requires.program c.args.conditions.now c.args.plausible.now v

pub returns-clause-settled : goal.returns-clause-settled
returns-clause-settled g c =
    let o = c.args.options.now in
    loops_settle g.L.Leaf.meaning g.met.L.Leaf.laws o (c.transfer_is_sound.ensures.answers o.mode)

pub returns-clause-inductive : goal.returns-clause-inductive
returns-clause-inductive g c =
    let o = c.args.options.now in
    finals_are_inductive g.L.Leaf.meaning g.met.L.Leaf.laws o (c.transfer_is_sound.ensures.answers o.mode)

pub returns-clause-places : goal.returns-clause-places
returns-clause-places g c =
    if_ok_by c.analyse_counted.result (AreFindings g.L.Leaf.value g.L.Leaf.meaning c.args.options.now (whole c.args.code.now) c.args.conditions.now c.args.plausible.now) _ (λ f h. h.places) c.analyse_counted.ensures

pub returns-clause-trees : goal.returns-clause-trees
returns-clause-trees g c =
    if_ok_by c.analyse_counted.result (AreFindings g.L.Leaf.value g.L.Leaf.meaning c.args.options.now (whole c.args.code.now) c.args.conditions.now c.args.plausible.now) _ (λ f h. h.trees) c.analyse_counted.ensures

pub returns-clause-kinds : goal.returns-clause-kinds
returns-clause-kinds g c =
    if_ok_by c.analyse_counted.result (AreFindings g.L.Leaf.value g.L.Leaf.meaning c.args.options.now (whole c.args.code.now) c.args.conditions.now c.args.plausible.now) _ (λ f h. h.kinds) c.analyse_counted.ensures

pub returns-clause-alarms : goal.returns-clause-alarms
returns-clause-alarms g c =
    if_ok_by c.analyse_counted.result (AreFindings g.L.Leaf.value g.L.Leaf.meaning c.args.options.now (whole c.args.code.now) c.args.conditions.now c.args.plausible.now) _ (λ f h. h.alarms) c.analyse_counted.ensures

pub returns-clause-tests : goal.returns-clause-tests
returns-clause-tests g c =
    if_ok_by c.analyse_counted.result (AreFindings g.L.Leaf.value g.L.Leaf.meaning c.args.options.now (whole c.args.code.now) c.args.conditions.now c.args.plausible.now) _ (λ f h. h.tests) c.analyse_counted.ensures

pub returns-clause-alarm_tests : goal.returns-clause-alarm_tests
returns-clause-alarm_tests g c =
    if_ok_by c.analyse_counted.result (AreFindings g.L.Leaf.value g.L.Leaf.meaning c.args.options.now (whole c.args.code.now) c.args.conditions.now c.args.plausible.now) _ (λ f h. h.alarm_tests) c.analyse_counted.ensures

pub returns-clause-places_numbered : goal.returns-clause-places_numbered
returns-clause-places_numbered g c =
    if_ok_by c.analyse_counted.result (AreFindings g.L.Leaf.value g.L.Leaf.meaning c.args.options.now (whole c.args.code.now) c.args.conditions.now c.args.plausible.now) _ (λ f h. h.places_numbered) c.analyse_counted.ensures

pub returns-clause-alarms_numbered : goal.returns-clause-alarms_numbered
returns-clause-alarms_numbered g c =
    if_ok_by c.analyse_counted.result (AreFindings g.L.Leaf.value g.L.Leaf.meaning c.args.options.now (whole c.args.code.now) c.args.conditions.now c.args.plausible.now) _ (λ f h. h.alarms_numbered) c.analyse_counted.ensures

pub returns-clause-reduced : goal.returns-clause-reduced
returns-clause-reduced g c =
    if_ok_by c.analyse_counted.result (AreFindings g.L.Leaf.value g.L.Leaf.meaning c.args.options.now (whole c.args.code.now) c.args.conditions.now c.args.plausible.now) _ (λ f h. h.reduced) c.analyse_counted.ensures

pub returns-clause-below : goal.returns-clause-below
returns-clause-below g c =
    if_ok_by c.analyse_counted.result (AreFindings g.L.Leaf.value g.L.Leaf.meaning c.args.options.now (whole c.args.code.now) c.args.conditions.now c.args.plausible.now) _ (λ f h. h.below) c.analyse_counted.ensures
