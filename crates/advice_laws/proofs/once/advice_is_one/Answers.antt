use Rattle.advice_laws.proofs.OneAnswer.{advice_is_one}
use Rattle.advice_laws.proofs.once.advice_is_one.Goals as goal

pub returns : goal.returns
returns c = advice_is_one
