use Rattle.famlint_core.proofs.Answering.{some_answer, one_answer}
use Rattle.famlint_core.proofs.laws.plain_has_one_answer.Goals as goal

pub returns-clause-some : goal.returns-clause-some
returns-clause-some c = some_answer c.reads_something.ensures

pub returns-clause-alone : goal.returns-clause-alone
returns-clause-alone c = one_answer c.reads_at_most_once.ensures
