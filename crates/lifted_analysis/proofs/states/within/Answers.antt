use Rattle.decision_tree.specs.View.{numbered}
use Rattle.lifted_analysis.proofs.StateLemmas.{truths_made}
use Rattle.lifted_analysis.proofs.states.within.Goals as goal

pub returns-clause-truth : goal.returns-clause-truth
returns-clause-truth g c =
    truths_made g.L.Leaf.value c.args.family.now c.unify_in.result c.unify_in.new.forest (numbered c.args.here.now) (numbered c.args.choice.now) c.requires.here c.requires.choice c.unify_in.ensures.tests c.unify_in.ensures.tree
