use Rattle.c_grammar.proofs.TooDeep.{reads_within_law, stops_wrong_law, stops_deep_law}
use Rattle.c_grammar.proofs.laws.reads_within_the_limits.Goals as goal

pub returns-clause-file : goal.returns-clause-file
returns-clause-file c = reads_within_law

pub returns-clause-wrong : goal.returns-clause-wrong
returns-clause-wrong c = stops_wrong_law

pub returns-clause-deep : goal.returns-clause-deep
returns-clause-deep c = stops_deep_law
