use Rattle.std.proofs.Common.{sym, subst, IfOk}
use Rattle.plain_analysis.specs.View.{parts_of}
use Rattle.decision_tree.specs.View.{numbered, plain}
use Rattle.lifted_analysis.specs.Rules.{ruled_heads, head_with, IsRuled}
use Rattle.lifted_analysis.specs.States.{IsLifted}
use Rattle.lifted_analysis.proofs.WalkLemmas.{known_lifted}
use Rattle.lifted_analysis.proofs.rule.ruled_tree.Goals as goal

pub returns-in-Rounds-clause-lifted : goal.returns-in-Rounds-clause-lifted
returns-in-Rounds-clause-lifted g c =
    let value = g.L.Leaf.value in
    let M = g.L.Leaf.meaning in
    let family = c.args.family.now in
    subst (λ r. IfOk c.final_tree.result (λ x. IsLifted value family c.args.tables.now.leaves c.final_tree.new.tables.leaves (head_with M family (ruled_heads value M family r) c.args.the_loop.now.place (parts_of c.args.the_loop.now.parts)) (plain c.args.t.now) (numbered x)))
    (sym c.in-Rounds.is) c.final_tree.ensures.lifted

pub returns-in-Lines-clause-memory : goal.returns-in-Lines-clause-memory
returns-in-Lines-clause-memory g c =
    known_lifted g.L.Leaf.value g.L.Leaf.meaning c.args.family.now c.args.rule.now c.given_tree.result c.args.tables.now.leaves c.given_tree.new.tables.leaves c.args.finals.now _ _ c.given_tree.ensures c.requires.memory

pub given_tree-requires-clause-index : goal.given_tree-requires-clause-index
given_tree-requires-clause-index g c =
    (subst (IsRuled g.L.Leaf.value g.L.Leaf.meaning c.args.family.now c.args.tables.now.leaves) c.in-Lines.is c.requires.memory.ruled).1
