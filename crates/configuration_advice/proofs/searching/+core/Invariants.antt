use Rattle.std.proofs.Common.{◌-◌}
use Rattle.configuration_advice.proofs.searching.+core.Given as goal

abbrev pub decreases-core : goal.decreases-core
decreases-core l = l.to - l.from
