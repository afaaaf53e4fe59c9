use Rattle.alarm_page.proofs.Reading.{text_written}
use Rattle.alarm_page.proofs.laws.texts_are_no_markup.Goals as goal

pub returns : goal.returns
returns c bytes are = text_written bytes are
