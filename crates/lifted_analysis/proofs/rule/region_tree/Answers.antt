use Rattle.cpp_conditions.specs.Propositions.{true_on}
use Rattle.cpp_conditions.specs.View.{formula}
use Rattle.decision_tree.specs.View.{numbered, plain}
use Rattle.decision_tree.proofs.Numbers.{numbered_tree}
use Rattle.lifted_analysis.specs.Lines.{bounded_by}
use Rattle.lifted_analysis.proofs.RuleLemmas.{line_holds}
use Rattle.lifted_analysis.proofs.StateLemmas.{state_stays}
use Rattle.lifted_analysis.proofs.rule.region_tree.Goals as goal

pub selected-requires-clause-truth : goal.selected-requires-clause-truth
selected-requires-clause-truth g c = record {
  tree = numbered_tree 0 320 c.test_tree_in.new.forest (numbered c.in_ok-region.region) c.in_ok-region.ensures.tree;
  tests = λ k w. c.requires.tests k (c.in_ok-region.ensures.means.tests k w);
}

pub selected-requires-clause-u : goal.selected-requires-clause-u
selected-requires-clause-u g c =
    state_stays g.L.Leaf.value c.args.family.now c.args.tables.now.leaves c.stepped.new.tables.leaves (numbered c.args.elsewhere.now) c.in_ok-bounded.ensures.keeps c.requires.elsewhere

pub returns : goal.returns
returns g c =
    let M = g.L.Leaf.meaning in
    let line = c.args.line.now in
    line_holds g.L.Leaf.value M c.args.family.now c.selected.result c.args.tables.now.leaves c.stepped.new.tables.leaves c.selected.new.tables.leaves (plain c.in_ok-region.region) (λ v. true_on v (formula line.region)) (bounded_by M line.bounds)
    (plain c.args.start.now) (plain c.args.elsewhere.now) (numbered c.in_ok-bounded.bounded) c.in_ok-region.ensures.means.truth c.in_ok-bounded.ensures c.selected.ensures
