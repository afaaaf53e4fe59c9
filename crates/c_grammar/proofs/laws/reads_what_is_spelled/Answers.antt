use Rattle.c_grammar.proofs.Wrong.{complete_law}
use Rattle.c_grammar.proofs.laws.reads_what_is_spelled.Goals as goal

pub returns : goal.returns
returns c = complete_law
