use Rattle.c_grammar.proofs.Level.{directives_level}
use Rattle.c_grammar.proofs.laws.directives_stand_level.Goals as goal

pub returns : goal.returns
returns c = directives_level
