use Rattle.octagon_leaf.proofs.Exactness.{leaf-exact, leq-inclusion, join-least}
use Rattle.octagon_leaf.proofs.ExactForms.{meet-form-exact, set-form-exact}
use Rattle.octagon_leaf.proofs.ExactRanges.{bounds-exact, form-ranges-exact}
use Rattle.octagon_leaf.proofs.laws.octagons_are_exact.Goals as goal

pub returns-clause-leaf : goal.returns-clause-leaf
returns-clause-leaf c = leaf-exact

pub returns-clause-order : goal.returns-clause-order
returns-clause-order c = leq-inclusion

pub returns-clause-least : goal.returns-clause-least
returns-clause-least c = join-least

pub returns-clause-meets : goal.returns-clause-meets
returns-clause-meets c = meet-form-exact

pub returns-clause-sets : goal.returns-clause-sets
returns-clause-sets c = set-form-exact

pub returns-clause-bounds : goal.returns-clause-bounds
returns-clause-bounds c = bounds-exact

pub returns-clause-ranges : goal.returns-clause-ranges
returns-clause-ranges c = form-ranges-exact
