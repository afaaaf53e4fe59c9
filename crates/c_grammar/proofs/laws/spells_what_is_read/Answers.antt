use Rattle.c_grammar.proofs.Wrong.{sound_law}
use Rattle.c_grammar.proofs.laws.spells_what_is_read.Goals as goal

pub returns : goal.returns
returns c = sound_law
