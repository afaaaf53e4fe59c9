use Rattle.c_grammar.proofs.Wrong.{steps_go_on_law, steps_decide_law, ends_decide_law}
use Rattle.c_grammar.proofs.laws.steps_decide.Goals as goal

pub returns-clause-on : goal.returns-clause-on
returns-clause-on c = steps_go_on_law

pub returns-clause-item : goal.returns-clause-item
returns-clause-item c = steps_decide_law

pub returns-clause-end : goal.returns-clause-end
returns-clause-end c = ends_decide_law
