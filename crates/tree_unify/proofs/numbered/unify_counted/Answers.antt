use Rattle.std.proofs.Common.{arith}
use Rattle.decision_tree.specs.View.{numbered, plain}
use Rattle.tree_unify.proofs.Making.{made_unified, made_leaves, made_tests, made_tree}
use Rattle.tree_unify.proofs.numbered.unify_counted.Goals as goal

pub returns-clause-unified : goal.returns-clause-unified
returns-clause-unified g c = made_unified _ _ c.unify_known.result (plain c.args.t.now) (plain c.args.u.now) c.unify_known.ensures.made

pub returns-clause-leaves : goal.returns-clause-leaves
returns-clause-leaves g c = made_leaves _ _ c.unify_known.result (numbered c.args.t.now) (numbered c.args.u.now) c.requires.t c.requires.u c.unify_known.ensures.made

pub returns-clause-tests : goal.returns-clause-tests
returns-clause-tests g c = made_tests _ _ c.unify_known.result (plain c.args.t.now) (plain c.args.u.now) c.unify_known.ensures.made

pub returns-clause-tree : goal.returns-clause-tree
returns-clause-tree g c = made_tree _ _ c.unify_known.result (numbered c.args.t.now) (numbered c.args.u.now) c.requires.t c.requires.u c.unify_known.ensures.made

pub returns-clause-steps : goal.returns-clause-steps
returns-clause-steps g c = λ xs ys hx hy. omega (arith, c.unify_known.ensures.bounded xs ys hx hy)

pub returns-clause-nodes : goal.returns-clause-nodes
returns-clause-nodes g c = λ xs ys hx hy. omega (arith, c.unify_known.ensures.room xs ys hx hy)
