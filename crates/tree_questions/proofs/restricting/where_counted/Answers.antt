use Rattle.std.proofs.Common.{rules}
use Rattle.cpp_conditions.specs.View.{formula}
use Rattle.decision_tree.specs.View.{plain}
use Rattle.tree_questions.proofs.Restricted.{below_as, leads_as, tests_as, numbered_as}
use Rattle.tree_questions.proofs.restricting.where_counted.Goals as goal

pub test_tree_in-requires : goal.test_tree_in-requires
test_tree_in-requires g c = below_as 320 c.args.test c.args.truth (formula c.in_ok-said.said) c.in_ok-said.ensures c.requires.test

pub returns-clause-leads : goal.returns-clause-leads
returns-clause-leads g c =
    leads_as c.restrict_in.result (plain c.args.tree.now) (plain c.in_ok-own.own) _ (plain c.in_ok-care.care) (formula c.in_ok-said.said) c.args.test c.args.truth
    (λ a b h. let k = h.says in let e = h.shows in search rules) c.in_ok-own.ensures.mapped c.in_ok-said.ensures c.in_ok-care.ensures.means c.restrict_in.ensures.leads

pub returns-clause-tests : goal.returns-clause-tests
returns-clause-tests g c = tests_as c.restrict_in.result (plain c.args.tree.now) (plain c.in_ok-own.own) c.in_ok-own.ensures.tests c.restrict_in.ensures.tests

pub returns-clause-numbered : goal.returns-clause-numbered
returns-clause-numbered g c = numbered_as c.restrict_in.result c.restrict_in.new.forest (c.restrict_in.ensures.tree 0 c.in_ok-own.ensures.tree)
