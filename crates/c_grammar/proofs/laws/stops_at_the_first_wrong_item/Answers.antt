use Rattle.c_grammar.proofs.Wrong.{finds_wrong_law, wrong_is_found_law}
use Rattle.c_grammar.proofs.laws.stops_at_the_first_wrong_item.Goals as goal

pub returns-clause-there : goal.returns-clause-there
returns-clause-there c = finds_wrong_law

pub returns-clause-alone : goal.returns-clause-alone
returns-clause-alone c = wrong_is_found_law
