use Rattle.std.proofs.Common.{length}
use Rattle.cpp_conditions.specs.View.{formula}
use Rattle.tree_questions.proofs.Asked.{asked_below}
use Rattle.tree_questions.proofs.searching.by_formula.Goals as goal

pub least_where-requires-clause-numbers : goal.least_where-requires-clause-numbers
least_where-requires-clause-numbers c =
    let count = length c.args.question.now.atoms.now in
    asked_below count (formula c.args.wanted.now) (formula c.in_ok-wanted.wanted) (formula c.in_ok-untrue.untrue) (formula c.in_ok-asked.asked) c.in_ok-asked.ensures c.in_ok-wanted.ensures c.requires.wanted_below
    (c.in_ok-untrue.ensures.below count c.requires.tests)
