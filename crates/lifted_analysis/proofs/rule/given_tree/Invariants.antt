use Rattle.std.proofs.Common.{drop}
use Rattle.decision_tree.specs.View.{numbered, plain}
use Rattle.lifted_analysis.specs.States.{IsLifted}
use Rattle.lifted_analysis.proofs.RuleLemmas.{given_by}
use Rattle.lifted_analysis.proofs.rule.given_tree.Given as goal

-- what the lines behind give
abbrev pub invariant-loop-k : goal.invariant-loop-k
invariant-loop-k g l =
    IsLifted g.L.Leaf.value l.family l.fn.tables.leaves l.tables.leaves (λ v d. given_by g.L.Leaf.meaning l.family.lines.now (drop l.k l.positions) v d) (plain l.start) (numbered l.made)
