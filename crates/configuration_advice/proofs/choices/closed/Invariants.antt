use Rattle.std.proofs.Common.{◌≡◌, map, take}
use Rattle.configuration_advice.specs.Choices.{close}
use Rattle.configuration_advice.proofs.choices.closed.Given as goal

abbrev pub invariant-loop-choice : goal.invariant-loop-choice
invariant-loop-choice l = l.made.items ≡ map close (take l.choice-index l.choices)
