use Rattle.std.proofs.Common.{sym, ◌∙◌}
use Rattle.cpp_conditions.proofs.Numbers.{stood_there}
use Rattle.cpp_conditions.proofs.expected.expected_place.Goals as goal

pub returns-then-eq : goal.returns-then-eq
returns-then-eq c = stood_there c.args.atoms.now _ c.in-Some.other.now _ c.in-Some.ensures.lookup.0 c.in-Some.ensures.lookup.1 (sym c.eq.ensures ∙ c.if-eq.true)
