use Rattle.std.proofs.Common.{◌≡◌, map, take}
use Rattle.cpp_conditions.specs.Propositions.{true_on}
use Rattle.cpp_conditions.specs.View.{formula}
use Rattle.variant_projector.proofs.truths.truths_of.Given as goal

abbrev pub invariant-loop-wanted : goal.invariant-loop-wanted
invariant-loop-wanted l = l.made.items ≡ map (λ f. true_on l.vector (formula f)) (take l.wanted-index l.formulas)
