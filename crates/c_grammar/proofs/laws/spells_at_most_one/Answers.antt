use Rattle.c_grammar.proofs.Wrong.{at_most_one_law}
use Rattle.c_grammar.proofs.laws.spells_at_most_one.Goals as goal

pub returns : goal.returns
returns c = at_most_one_law
