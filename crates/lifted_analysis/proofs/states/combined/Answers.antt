use Rattle.std.proofs.Common.{◌∙◌, sym}
use Rattle.decision_tree.specs.View.{numbered}
use Rattle.lifted_analysis.specs.Steps.{combined_by}
use Rattle.lifted_analysis.proofs.StateLemmas.{state_numbered, joint_made}
use Rattle.lifted_analysis.proofs.states.combined.Goals as goal

pub unify_in-requires-clause-takes : goal.unify_in-requires-clause-takes
unify_in-requires-clause-takes g c = record { each = λ x y h k. c.requires.t.leaves x h ∙ sym (c.requires.u.leaves y k) }

pub unify_in-requires-clause-t : goal.unify_in-requires-clause-t
unify_in-requires-clause-t g c = state_numbered g.L.Leaf.value c.args.family.now c.args.tables.now.leaves (numbered c.args.t.now) c.requires.t

pub unify_in-requires-clause-u : goal.unify_in-requires-clause-u
unify_in-requires-clause-u g c = state_numbered g.L.Leaf.value c.args.family.now c.args.tables.now.leaves (numbered c.args.u.now) c.requires.u

pub returns : goal.returns
returns g c =
    joint_made g.L.Leaf.value c.args.family.now c.unify_in.result _ (combined_by g.L.Leaf.meaning c.args.family.now.options.now.thresholds c.args.how) c.args.tables.now.leaves c.unify_in.new.forest (numbered c.args.t.now) (numbered c.args.u.now)
    (λ x y z h. h)
    c.requires.t c.requires.u c.unify_in.ensures.unified c.unify_in.ensures.leaves c.unify_in.ensures.tests c.unify_in.ensures.tree c.unify_in.ensures.keeps
