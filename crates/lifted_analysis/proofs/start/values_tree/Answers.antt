use Rattle.std.proofs.Common.{◌+◌, ◌∙◌, ap, sym, true, take, List, Bool, arith}
use Rattle.std.proofs.lemmas.List.{take_all}
use Rattle.c_tree.specs.Project.{guards_hold, projected_start}
use Rattle.c_tree.proofs.Starts.{start_more, start_none}
use Rattle.decision_tree.specs.Plain.{leaf_of}
use Rattle.decision_tree.specs.View.{plain}
use Rattle.lifted_analysis.specs.declared.start.Beginning.{Beginning}
use Rattle.lifted_analysis.specs.Start.{begins_with, begins_at, declared_by}
use Rattle.lifted_analysis.specs.States.{truths_in}
use Rattle.lifted_analysis.proofs.StartLemmas.{tree_made, tree_as, leaf_tree, declared_where, beginnings_exact}
use Rattle.lifted_analysis.proofs.start.values_tree.Goals as goal

pub loop-d-init : goal.loop-d-init
loop-d-init g c =
    let family = c.args.family.now in
    let start = c.args.start.now in
    record {
      made = tree_as family (λ v. begins_with start (leaf_of (plain family.plausible.now) v)) (begins_at family start (take 0 c.items-d-items.result.now)) c.in_ok-made.made
          (λ v. ap (λ l. begins_with l (leaf_of (plain family.plausible.now) v)) (sym (start_none (truths_in family.choices.now v) 0 start)))
          c.in_ok-made.ensures.tree;
      held = leaf_tree family c.leaf.new.self c.in_ok-tree.tree true c.in_ok-tree.ensures.same c.in_ok-tree.ensures.tree;
      same = c.in_ok-made.ensures.same;
    }

pub loop-d-preserved : goal.loop-d-preserved
loop-d-preserved g c =
    let family = c.args.family.now in
    let ds = c.items-d-items.result.now in
    let i = c.loop-d.d-index in
    let d = c.d-item.result in
    let start = c.args.start.now in
    let held = c.in_ok-held.held in
    let f : List Bool → Bool = λ v. guards_hold (truths_in family.choices.now v) d.guards in
    let h : List Bool → Beginning = begins_at family start (take i ds) in
    let op : Bool → Beginning → Beginning = λ b x. declared_by b d.target d.value x in
    record {
      made = tree_as family (λ v. op (f v) (h v)) (begins_at family start (take (i + 1) ds)) c.in_ok-made-2.made
          (λ v.
          let ts = truths_in family.choices.now v in
          let b = leaf_of (plain family.plausible.now) v in
          declared_where (f v) b d.target d.value (projected_start ts (take i ds) start)
          ∙ ap (λ l. begins_with l b) (sym (start_more ts ds i d start c.loop-d-test.true c.d-item.is)))
          (tree_made family _ op f h c.unify_in.new.forest held.tree c.loop-d.made c.in_ok-made-2.made (λ a b x e. e)
          (tree_as family (λ v. guards_hold (truths_in family.choices.now v) held.guards.now) f held.tree (λ v. ap (guards_hold (truths_in family.choices.now v)) (c.in_ok-held.ensures.guards ∙ c.items.ensures)) c.in_ok-held.ensures.held)
          c.loop-d.invariant.made c.in_ok-made-2.ensures.unified c.in_ok-made-2.ensures.tests c.in_ok-made-2.ensures.tree);
      held = c.in_ok-held.ensures.held;
      same = c.in_ok-held.ensures.same ∙ c.loop-d.invariant.same;
    }

pub unify_in-requires-clause-exact : goal.unify_in-requires-clause-exact
unify_in-requires-clause-exact g c = beginnings_exact

pub returns-clause-tree : goal.returns-clause-tree
returns-clause-tree g c =
    let family = c.args.family.now in
    let start = c.args.start.now in
    tree_as family (begins_at family start (take c.loop-d.d-index c.items-d-items.result.now)) _ c.loop-d.made
    (λ v. ap (λ l. begins_at family start l v) (take_all c.loop-d.d-index c.items-d-items.result.now (omega (arith, c.loop-d-test.false)) ∙ c.items-d-items.ensures))
    c.loop-d.invariant.made
