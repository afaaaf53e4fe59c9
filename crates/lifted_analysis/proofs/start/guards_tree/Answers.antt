use Rattle.std.proofs.Common.{◌+◌, sym, refl, true, take, List, Bool}
use Rattle.std.proofs.lemmas.List.Folds.{list_all_more}
use Rattle.c_tree.specs.Project.{guards_hold, guard_holds}
use Rattle.lifted_analysis.specs.States.{truths_in}
use Rattle.lifted_analysis.proofs.StartLemmas.{tree_made, tree_as, leaf_tree, choice_tree}
use Rattle.lifted_analysis.proofs.start.guards_tree.Goals as goal

pub loop-guard-init : goal.loop-guard-init
loop-guard-init g c = record {
  made = leaf_tree c.args.family.now c.leaf.new.self c.in_ok-made.made true c.in_ok-made.ensures.same c.in_ok-made.ensures.tree;
  same = refl;
}

pub loop-guard-preserved : goal.loop-guard-preserved
loop-guard-preserved g c =
    let family = c.args.family.now in
    let guards = c.args.guards.now in
    let i = c.loop-guard.guard-index in
    let f : List Bool → Bool = λ v. guards_hold (truths_in family.choices.now v) (take i guards) in
    record {
      made = tree_as family _ (λ v. guards_hold (truths_in family.choices.now v) (take (i + 1) guards)) c.in_ok-made-2.made
          (λ v. sym (list_all_more (guard_holds (truths_in family.choices.now v)) guards i _ c.loop-guard-test.true))
          (tree_made family _ _ f _ c.unify_in.new.forest c.loop-guard.made c.choice-choice.result.now c.in_ok-made-2.made (λ a b d e. e) c.loop-guard.invariant.made
          (choice_tree family _ c.choice-choice.result.now c.choice-choice.ensures.truth c.choice-choice.ensures.at_each)
          c.in_ok-made-2.ensures.unified c.in_ok-made-2.ensures.tests c.in_ok-made-2.ensures.tree);
      same = c.loop-guard.invariant.same;
    }
