use Rattle.std.proofs.Common.{◌∙◌, sym}
use Rattle.decision_tree.specs.View.{numbered}
use Rattle.lifted_analysis.proofs.StateLemmas.{truth_made}
use Rattle.lifted_analysis.proofs.states.below.Goals as goal

pub unify_in-requires-clause-takes : goal.unify_in-requires-clause-takes
unify_in-requires-clause-takes g c = record { each = λ x y h k. c.requires.t.leaves x h ∙ sym (c.requires.u.leaves y k) }

pub returns-clause-truth : goal.returns-clause-truth
returns-clause-truth g c =
    truth_made g.L.Leaf.value c.args.family.now c.unify_in.result c.unify_in.new.forest (numbered c.args.t.now) (numbered c.args.u.now)
    c.requires.t c.requires.u c.unify_in.ensures.tests c.unify_in.ensures.tree
