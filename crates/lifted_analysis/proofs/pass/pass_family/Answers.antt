use Rattle.c_tree.specs.View.{whole}
use Rattle.lifted_analysis.specs.Pass.{ArePassFindings}
use Rattle.lifted_analysis.proofs.PassAnswered.{pass_runs}
use Rattle.lifted_analysis.proofs.StateLemmas.{if_ok_by}
use Rattle.lifted_analysis.proofs.pass.pass_family.Goals as goal

pub returns-clause-runs : goal.returns-clause-runs
returns-clause-runs g c =
    let sound = c.transfer_is_sound.ensures in
    λ v h. pass_runs g.L.Leaf.meaning g.met.L.Leaf.laws c.args.mode (sound.answers c.args.mode) (sound.holds c.args.mode) (whole c.args.code.now) c.requires.program c.args.conditions.now c.args.plausible.now c.args.lines.now c.requires.bounds v h

pub returns-clause-places : goal.returns-clause-places
returns-clause-places g c =
    if_ok_by c.pass_counted.result (ArePassFindings g.L.Leaf.value g.L.Leaf.meaning c.args.mode (whole c.args.code.now) c.args.conditions.now c.args.plausible.now c.args.lines.now) _ (λ f h. h.places) c.pass_counted.ensures

pub returns-clause-trees : goal.returns-clause-trees
returns-clause-trees g c =
    if_ok_by c.pass_counted.result (ArePassFindings g.L.Leaf.value g.L.Leaf.meaning c.args.mode (whole c.args.code.now) c.args.conditions.now c.args.plausible.now c.args.lines.now) _ (λ f h. h.trees) c.pass_counted.ensures

pub returns-clause-kinds : goal.returns-clause-kinds
returns-clause-kinds g c =
    if_ok_by c.pass_counted.result (ArePassFindings g.L.Leaf.value g.L.Leaf.meaning c.args.mode (whole c.args.code.now) c.args.conditions.now c.args.plausible.now c.args.lines.now) _ (λ f h. h.kinds) c.pass_counted.ensures

pub returns-clause-alarms : goal.returns-clause-alarms
returns-clause-alarms g c =
    if_ok_by c.pass_counted.result (ArePassFindings g.L.Leaf.value g.L.Leaf.meaning c.args.mode (whole c.args.code.now) c.args.conditions.now c.args.plausible.now c.args.lines.now) _ (λ f h. h.alarms) c.pass_counted.ensures

pub returns-clause-loops : goal.returns-clause-loops
returns-clause-loops g c =
    if_ok_by c.pass_counted.result (ArePassFindings g.L.Leaf.value g.L.Leaf.meaning c.args.mode (whole c.args.code.now) c.args.conditions.now c.args.plausible.now c.args.lines.now) _ (λ f h. h.loops) c.pass_counted.ensures

pub returns-clause-inductive : goal.returns-clause-inductive
returns-clause-inductive g c =
    if_ok_by c.pass_counted.result (ArePassFindings g.L.Leaf.value g.L.Leaf.meaning c.args.mode (whole c.args.code.now) c.args.conditions.now c.args.plausible.now c.args.lines.now) _ (λ f h. h.inductive) c.pass_counted.ensures

pub returns-clause-alarms_numbered : goal.returns-clause-alarms_numbered
returns-clause-alarms_numbered g c =
    if_ok_by c.pass_counted.result (ArePassFindings g.L.Leaf.value g.L.Leaf.meaning c.args.mode (whole c.args.code.now) c.args.conditions.now c.args.plausible.now c.args.lines.now) _ (λ f h. h.alarms_numbered) c.pass_counted.ensures

pub returns-clause-loops_numbered : goal.returns-clause-loops_numbered
returns-clause-loops_numbered g c =
    if_ok_by c.pass_counted.result (ArePassFindings g.L.Leaf.value g.L.Leaf.meaning c.args.mode (whole c.args.code.now) c.args.conditions.now c.args.plausible.now c.args.lines.now) _ (λ f h. h.loops_numbered) c.pass_counted.ensures
