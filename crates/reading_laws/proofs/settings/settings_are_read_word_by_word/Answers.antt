use Rattle.reading_laws.proofs.Given.{are_configured, have_answers}
use Rattle.reading_laws.proofs.GivenOnce.{one_answer}
use Rattle.reading_laws.proofs.settings.settings_are_read_word_by_word.Goals as goal

pub returns-clause-meaning : goal.returns-clause-meaning
returns-clause-meaning c = are_configured

pub returns-clause-once : goal.returns-clause-once
returns-clause-once c = one_answer

pub returns-clause-answer : goal.returns-clause-answer
returns-clause-answer c = have_answers
