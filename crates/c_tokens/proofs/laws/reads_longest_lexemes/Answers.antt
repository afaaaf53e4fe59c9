use Rattle.c_tokens.proofs.Readings.{is_reading}
use Rattle.c_tokens.proofs.laws.reads_longest_lexemes.Goals as goal

pub returns : goal.returns
returns c = is_reading
