use Rattle.std.proofs.Common.{◌≡◌, ◌++◌, length}
use Rattle.configuration_advice.specs.Texts.{uses_text}
use Rattle.configuration_advice.proofs.texts.uses_text.Given as goal

-- what stands, and what is left, are all
abbrev pub invariant-lines : goal.invariant-lines
invariant-lines l = l.text.items ++ uses_text l.rest l.others ≡ uses_text l.fn.features l.fn.uses

abbrev pub decreases-lines : goal.decreases-lines
decreases-lines l = length l.rest
