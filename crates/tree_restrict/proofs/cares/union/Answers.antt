use Rattle.std.proofs.Common.{true, false, [], ◌∷◌}
use Rattle.std.proofs.lemmas.Result.{IfOk-weaker}
use Rattle.decision_tree.specs.View.{numbered, plain}
use Rattle.decision_tree.proofs.Numbers.{numbered_tree}
use Rattle.tree_restrict.proofs.Unions.{both_ok, two_truths, union_tree, union_of}
use Rattle.tree_restrict.proofs.cares.union.Goals as goal

pub unify_in-requires-clause-t : goal.unify_in-requires-clause-t
unify_in-requires-clause-t g c = numbered_tree 0 320 _ (numbered c.args.no.now) c.requires.no

pub unify_in-requires-clause-u : goal.unify_in-requires-clause-u
unify_in-requires-clause-u g c = numbered_tree 0 320 _ (numbered c.args.yes.now) c.requires.yes

pub returns-clause-means : goal.returns-clause-means
returns-clause-means g c =
    union_of c.unify_in.result (plain c.args.no.now) (plain c.args.yes.now) c.unify_in.ensures.unified c.unify_in.ensures.tests (IfOk-weaker c.unify_in.result _ _ (λ u h. h.reduced) c.unify_in.ensures.tree)

pub returns-clause-tree : goal.returns-clause-tree
returns-clause-tree g c = λ first hp hq.
    both_ok c.unify_in.result _ _ _ (λ u x y. union_tree first _ _ (numbered c.args.no.now) (numbered c.args.yes.now) (numbered u) hp hq x y) c.unify_in.ensures.tests c.unify_in.ensures.tree

pub returns-clause-steps : goal.returns-clause-steps
returns-clause-steps g c =
    c.unify_in.ensures.steps (false ∷ true ∷ []) (false ∷ true ∷ []) (two_truths (plain c.args.no.now)) (two_truths (plain c.args.yes.now))
