use Rattle.std.proofs.Common.{rules}
use Rattle.octagon_leaf.specs.Octagons.{moved_entry}
use Rattle.octagon_leaf.proofs.filled.moved.Goals as goal

pub returns-clause-entries : goal.returns-clause-entries
returns-clause-entries c =
    let m = c.args.matrix.now in
    rw (c.variables.ensures.value) at c.filled.ensures.entries (moved_entry m c.args.x c.args.t c.args.c) c.requires.full (λ a b r h k d p. search rules)
