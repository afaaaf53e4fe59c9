use Rattle.std.proofs.Common.{subst, sym}
use Rattle.c_tree.specs.declared.tree.Stmt.TheVariants as statements
use Rattle.c_tree.specs.Tree.{Code, Done}
use Rattle.c_tree.specs.View.{front}
use Rattle.c_grammar.specs.Grammar as grammar
use Rattle.c_grammar.specs.Machine as machine
use Rattle.reading_states.specs.declared.words.Qualifier.{Qualifier}
use Rattle.reading_states.specs.Views.{as_qualifier, as_scope, Moves}
use Rattle.reading_states.proofs.Holding.{front_Input}
use Rattle.statement_reader.proofs.locals.without_initialiser.Goals as goal

pub returns-in-Unqualified : goal.returns-in-Unqualified
returns-in-Unqualified c =
    subst (λ (kind : Qualifier). Moves c.local_end.result (machine.without_initialiser (as_qualifier kind) c.args.place c.args.target (as_scope c.args.scope) c.args.sign)) (sym c.in-Unqualified.is)
    (subst (λ (made : Code). Moves c.local_end.result (machine.local_end grammar.Unqualified (as_scope c.args.scope) made c.args.sign)) (front_Input c.args.place c.args.target Done)
    (subst (λ (kind : Qualifier). Moves c.local_end.result (machine.local_end (as_qualifier kind) (as_scope c.args.scope) (front (statements.Input c.args.place c.args.target) Done) c.args.sign)) c.in-Unqualified.is c.local_end.ensures))
