use Rattle.alarm_page.proofs.Reading.{text_back}
use Rattle.alarm_page.proofs.laws.texts_are_read_back.Goals as goal

pub returns : goal.returns
returns c bytes are = text_back bytes are
