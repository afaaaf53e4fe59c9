use Rattle.reading_laws.proofs.ModelReadings.{answered, read_or_refused}
use Rattle.reading_laws.proofs.models.bytes_say_some_model.Goals as goal

pub returns-clause-some : goal.returns-clause-some
returns-clause-some c = read_or_refused c.bytes_have_a_reading.ensures

pub returns-clause-answer : goal.returns-clause-answer
returns-clause-answer c = answered c.bytes_have_a_reading.ensures
