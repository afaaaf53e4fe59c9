use Rattle.alarm_page.proofs.Told.{page_told}
use Rattle.alarm_page.proofs.laws.pages_tell_their_texts.Goals as goal

pub returns : goal.returns
returns c texts have = page_told texts have
