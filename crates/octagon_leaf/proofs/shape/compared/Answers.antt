use Rattle.std.proofs.Common.{pos}
use Rattle.octagon_leaf.proofs.Numbers.{at_most-small, at_least-small, zero-form}
use Rattle.octagon_leaf.proofs.shape.compared.Goals as goal

pub met-requires-in-Eq-clause-small : goal.met-requires-in-Eq-clause-small
met-requires-in-Eq-clause-small c =
    (at_most-small c.args.e (pos 0) c.at_most-in-Eq.result c.at_most-in-Eq.ensures c.requires.edge.constant zero-form, (at_least-small c.args.e (pos 0) c.at_least-in-Eq.result c.at_least-in-Eq.ensures c.requires.edge.constant zero-form, tt))

pub returns-in-Eq : goal.returns-in-Eq
returns-in-Eq c = rw (c.in-Eq.is) (rw (c.at_most-in-Eq.ensures, c.at_least-in-Eq.ensures) at c.met-in-Eq.ensures)
