use Rattle.std.proofs.Common.{map, rules}
use Rattle.alarm_report.specs.Invariants.{invariant}
use Rattle.famlint_families.proofs.family.invariants_before.Goals as goal

pub returns : goal.returns
returns g c = λ o found.
    record { invariants = map (invariant g.L.Leaf.value) c.in_ok-invariants.invariants.items; good = c.in_ok-invariants.ensures.good o c.args.regions found; is = search rules }
