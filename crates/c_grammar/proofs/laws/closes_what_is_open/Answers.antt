use Rattle.c_grammar.proofs.Closing.{completes}
use Rattle.c_grammar.proofs.laws.closes_what_is_open.Goals as goal

pub returns : goal.returns
returns c = completes
