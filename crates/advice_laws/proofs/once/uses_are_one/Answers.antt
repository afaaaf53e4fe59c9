use Rattle.advice_laws.proofs.OneAnswer.{uses_are_one}
use Rattle.advice_laws.proofs.once.uses_are_one.Goals as goal

pub returns : goal.returns
returns c = uses_are_one
