use Rattle.std.proofs.Common.{◌≡◌, ◌++◌, length}
use Rattle.configuration_advice.specs.Choices.{nothing_chosen}
use Rattle.configuration_advice.proofs.choices.nothing_chosen.Given as goal

abbrev pub invariant-values : goal.invariant-values
invariant-values l = l.made.items ++ nothing_chosen l.rest ≡ nothing_chosen l.fn.given

abbrev pub decreases-values : goal.decreases-values
decreases-values l = length l.rest
