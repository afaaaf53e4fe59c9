use Rattle.c_tokens.proofs.Lining.{apart}
use Rattle.c_tokens.proofs.laws.lines_are_apart.Goals as goal

pub returns : goal.returns
returns c = apart
