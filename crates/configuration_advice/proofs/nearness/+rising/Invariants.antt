use Rattle.std.proofs.Common.{◌-◌, length}
use Rattle.configuration_advice.proofs.nearness.+rising.Given as goal

abbrev pub decreases-rising : goal.decreases-rising
decreases-rising l = length l.choices.now - l.most
