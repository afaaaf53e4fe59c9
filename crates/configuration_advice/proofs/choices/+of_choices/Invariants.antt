use Rattle.std.proofs.Common.{length}
use Rattle.configuration_advice.proofs.choices.+of_choices.Given as goal

abbrev pub decreases-of_choices : goal.decreases-of_choices
decreases-of_choices l = length l.choices.now
