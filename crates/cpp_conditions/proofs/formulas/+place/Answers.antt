use Rattle.std.proofs.Common.{◌∙◌, sym}
use Rattle.cpp_conditions.proofs.Numbers.{first_place, later_place}
use Rattle.cpp_conditions.proofs.formulas.+place.Goals as goal

pub returns-then-eq-clause-place : goal.returns-then-eq-clause-place
returns-then-eq-clause-place t c h = first_place _ _ c.in-Some.first.now _ c.in-Some.ensures (sym c.eq.ensures ∙ c.if-eq.true)

pub returns-else-eq-clause-place : goal.returns-else-eq-clause-place
returns-else-eq-clause-place t c h = later_place _ _ c.in-Some.first.now _ c.place.result c.in-Some.ensures (sym c.eq.ensures ∙ c.if-eq.false) h c.place.ensures.place
