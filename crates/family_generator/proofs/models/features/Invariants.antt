use Rattle.std.proofs.Common.{◌≡◌, ◌++◌, ◌-◌}
use Rattle.family_generator.specs.Features.{switches}
use Rattle.family_generator.proofs.models.features.Given as goal

-- the switches so far and those to come are all
abbrev pub invariant-loop-n : goal.invariant-loop-n
invariant-loop-n l = l.made.items ++ switches l.n (8 - l.n) ≡ switches 0 8
