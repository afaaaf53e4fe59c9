use Rattle.std.proofs.Common.{sym, ◌∙◌}
use Rattle.cpp_conditions.proofs.Numbers.{first_place}
use Rattle.configuration_advice.proofs.keeping.+place_of.Goals as goal

pub returns-then-eq-clause-there : goal.returns-then-eq-clause-there
returns-then-eq-clause-there t c = first_place c.args.atoms.now c.in_ok-first.behind.now c.in_ok-first.first.now c.args.atom.now c.in_ok-first.ensures (sym c.eq.ensures ∙ c.if-eq.true)
