use Rattle.reading_laws.proofs.InnerScopes.{inner_scopes_hold}
use Rattle.reading_laws.proofs.OuterScopes.{outer_scopes_hold}
use Rattle.reading_laws.proofs.names.declarations_of_families_are_those_of_the_grammar.Goals as goal

pub returns-clause-all : goal.returns-clause-all
returns-clause-all c = c.declarations_are_those_of_the_grammar.ensures

pub returns-clause-before_main : goal.returns-clause-before_main
returns-clause-before_main c = outer_scopes_hold

pub returns-clause-in_main : goal.returns-clause-in_main
returns-clause-in_main c = inner_scopes_hold
