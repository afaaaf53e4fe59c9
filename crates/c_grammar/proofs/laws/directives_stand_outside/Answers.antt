use Rattle.c_grammar.proofs.Outside.{directives_outside}
use Rattle.c_grammar.proofs.laws.directives_stand_outside.Goals as goal

pub returns : goal.returns
returns c = directives_outside
