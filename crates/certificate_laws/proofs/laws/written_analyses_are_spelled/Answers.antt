use Rattle.certificate_laws.proofs.WrittenTexts.{written_spelled}
use Rattle.certificate_laws.proofs.laws.written_analyses_are_spelled.Goals as goal

pub returns : goal.returns
returns c = written_spelled c.certificate_texts_have_one_reading.ensures.some c.written_analyses_are_accepted.ensures
