use Rattle.std.proofs.Common.{◌-◌}
use Rattle.configuration_advice.proofs.cheapest.+cheapest.Given as goal

abbrev pub decreases-cheapest : goal.decreases-cheapest
decreases-cheapest l = l.most - l.least
