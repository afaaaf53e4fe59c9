use Rattle.c_grammar.proofs.Beside.{directives_beside}
use Rattle.c_grammar.proofs.laws.directives_stand_beside.Goals as goal

pub returns : goal.returns
returns c = directives_beside
