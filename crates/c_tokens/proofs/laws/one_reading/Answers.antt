use Rattle.c_tokens.proofs.OneReading.{one}
use Rattle.c_tokens.proofs.laws.one_reading.Goals as goal

pub returns : goal.returns
returns c = one
