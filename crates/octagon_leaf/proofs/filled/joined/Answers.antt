use Rattle.std.proofs.Common.{rules}
use Rattle.octagon_leaf.specs.Octagons.{greater}
use Rattle.octagon_leaf.proofs.Full.{greater-full}
use Rattle.octagon_leaf.proofs.filled.joined.Goals as goal

pub returns-clause-entries : goal.returns-clause-entries
returns-clause-entries c =
    rw (c.variables.ensures.value) at c.filled.ensures.entries (greater c.args.first.now c.args.second.now) (greater-full c.args.first.now c.args.second.now c.variables.ensures.kept c.variables-same.ensures.kept c.requires) (λ a b r h k d p. search rules)
