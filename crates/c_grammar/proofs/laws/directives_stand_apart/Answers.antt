use Rattle.c_grammar.proofs.Apart.{directives_apart}
use Rattle.c_grammar.proofs.laws.directives_stand_apart.Goals as goal

pub returns : goal.returns
returns c = directives_apart
