use Rattle.decision_tree.specs.Plain.{leaf_of}
use Rattle.decision_tree.specs.View.{numbered, plain}
use Rattle.lifted_analysis.specs.Steps.{kept_by}
use Rattle.lifted_analysis.proofs.StateLemmas.{state_numbered, kept_made, kept_is}
use Rattle.lifted_analysis.proofs.AfterLemmas.{shared_made}
use Rattle.lifted_analysis.proofs.states.kept.Goals as goal

pub unify_in-requires-clause-u : goal.unify_in-requires-clause-u
unify_in-requires-clause-u g c = state_numbered g.L.Leaf.value c.args.family.now c.args.tables.now.leaves (numbered c.args.t.now) c.requires.state

pub returns : goal.returns
returns g c =
    kept_made g.L.Leaf.value c.args.family.now c.unify_in.result _ (kept_by c.args.want) c.args.tables.now.leaves c.unify_in.new.forest (numbered c.args.truth.now) (numbered c.args.t.now)
    (λ b x y h. h)
    c.requires.truth c.requires.state c.unify_in.ensures.unified c.unify_in.ensures.leaves c.unify_in.ensures.tests c.unify_in.ensures.tree c.unify_in.ensures.keeps

pub returns-then-is_everywhere : goal.returns-then-is_everywhere
returns-then-is_everywhere g c =
    let value = g.L.Leaf.value in
    let truth = plain c.args.truth.now in
    shared_made value c.args.family.now c.share.result c.args.tables.now.leaves (λ v. kept_by c.args.want (leaf_of truth v)) (numbered c.args.t.now) c.requires.state
    (λ v. kept_is c.args.want (leaf_of truth v) (value (leaf_of (plain c.args.t.now) v)) (c.is_everywhere.ensures c.if-is_everywhere.true v))
    c.share.ensures
