use Rattle.std.proofs.Common.{sym, ap, ◌∙◌, true}
use Rattle.plain_analysis.specs.View.{parts_of}
use Rattle.decision_tree.specs.Plain.{leaf_of}
use Rattle.decision_tree.specs.View.{numbered, plain}
use Rattle.leaf_domain.specs.Leaves.{LeafValue}
use Rattle.lifted_analysis.specs.Rules.{heads_in, ruled_heads, head_with}
use Rattle.lifted_analysis.specs.Steps.{kept_by}
use Rattle.lifted_analysis.proofs.AfterLemmas.{then_made}
use Rattle.lifted_analysis.proofs.StateLemmas.{counted}
use Rattle.lifted_analysis.proofs.WalkLemmas.{head_kept, known_lifted}
use Rattle.lifted_analysis.proofs.rule.head_tree.Goals as goal

pub returns-clause-lifted : goal.returns-clause-lifted
returns-clause-lifted g c =
    let value = g.L.Leaf.value in
    let M = g.L.Leaf.meaning in
    let family = c.args.family.now in
    let R = ruled_heads value M family c.args.rule.now in
    let here = plain c.args.here.now in
    let l = parts_of c.args.the_loop.now.parts in
    let t = plain c.args.t.now in
    let a = c.args.tables.now.leaves in
    let b = c.ruled_tree.new.tables.leaves in
    let made = numbered c.in_ok-made.made in
    then_made value family c.kept.result a b c.kept.new.tables.leaves (head_with M family R c.args.the_loop.now.place l) (λ v. kept_by true (leaf_of here v)) (head_with M family (heads_in value M family c.args.rule.now here) c.args.the_loop.now.place l) t made c.in_ok-made.ensures.lifted
    (λ v. head_kept value M family (leaf_of here v) R c.args.the_loop.now.place l v (value (leaf_of t v))
    (ap (λ (x : LeafValue). x.variables) (sym (c.in_ok-made.ensures.lifted.at_each v)) ∙ (counted value family b made v c.in_ok-made.ensures.lifted.state ∙ sym (counted value family a (numbered c.args.t.now) v c.requires.state))))
    c.kept.ensures

pub returns-clause-memory : goal.returns-clause-memory
returns-clause-memory g c =
    known_lifted g.L.Leaf.value g.L.Leaf.meaning c.args.family.now c.args.rule.now c.kept.result c.ruled_tree.new.tables.leaves c.kept.new.tables.leaves c.ruled_tree.new.finals _ _ c.kept.ensures c.in_ok-made.ensures.memory
