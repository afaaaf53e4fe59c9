use Rattle.std.proofs.Common.{◌<◌, length, rules}
use Rattle.std.specs.List.{All}
use Rattle.cpp_conditions.specs.declared.formulas.Formula.{Formula}
use Rattle.cpp_conditions.specs.Propositions.{IsBelow}
use Rattle.cpp_conditions.specs.View.{formula}
use Rattle.decision_tree.specs.View.{numbered, plain}
use Rattle.decision_tree.proofs.Numbers.{numbered_tree}
use Rattle.configuration_advice.specs.Changes.{too_many}
use Rattle.configuration_advice.proofs.CostTrees.{one_more, below_more, numbered_in, tail_below, tail_few}
use Rattle.configuration_advice.proofs.costs.+unkept_in.Goals as goal

pub unkept_in-requires : goal.unkept_in-requires
unkept_in-requires g t c =
    let below : All (λ (f : Formula). IsBelow 320 (formula f)) c.in-Some.behind.now = tail_below 320 c.args.kept.now c.in-Some.behind.now c.in-Some.first.now c.in-Some.ensures c.requires.below in
    let few : length c.in-Some.behind.now < too_many = tail_few c.args.kept.now c.in-Some.behind.now c.in-Some.first.now c.in-Some.ensures c.requires.few in
    search rules

pub unify_in-requires-clause-u : goal.unify_in-requires-clause-u
unify_in-requires-clause-u g t c = numbered_tree 0 320 _ (numbered c.in_ok-truth.truth) c.in_ok-truth.ensures.tree

pub returns-clause-counts : goal.returns-clause-counts
returns-clause-counts g t c =
    one_more c.unify_in.result (plain c.in_ok-others.others) (plain c.in_ok-truth.truth) c.in-Some.first.now c.in-Some.behind.now c.args.kept.now c.in-Some.ensures
    c.in_ok-truth.ensures.means _ (λ a b d h. h) c.requires.few c.in_ok-others.ensures.counts c.unify_in.ensures.unified

pub returns-clause-tests : goal.returns-clause-tests
returns-clause-tests g t c =
    below_more c.unify_in.result (plain c.in_ok-others.others) (plain c.in_ok-truth.truth) c.in-Some.first.now c.in-Some.behind.now c.args.kept.now c.in-Some.ensures
    c.in_ok-truth.ensures.means c.in_ok-others.ensures.tests c.unify_in.ensures.tests

pub returns-clause-numbered : goal.returns-clause-numbered
returns-clause-numbered g t c = numbered_in c.unify_in.result c.unify_in.new.forest c.unify_in.ensures.tree
