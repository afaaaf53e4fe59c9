use Rattle.std.proofs.Common.{◌∙◌, length, ap}
use Rattle.configuration_advice.proofs.Belows.{tight_length}
use Rattle.configuration_advice.proofs.searching.+core.Goals as goal

pub first_candidate-requires-clause-count : goal.first_candidate-requires-clause-count
first_candidate-requires-clause-count t c = ap length c.deref-2.ensures.value ∙ tight_length c.args.choices.now c.in_ok-trial.trial.items c.in_ok-trial.ensures ∙ c.requires.count
