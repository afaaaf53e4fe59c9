use Rattle.c_grammar.proofs.StaticsFound.{statics_found}
use Rattle.c_grammar.proofs.laws.statics_are_those_of_the_grammar.Goals as goal

pub returns : goal.returns
returns c = statics_found
