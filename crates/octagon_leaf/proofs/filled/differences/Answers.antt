use Rattle.std.proofs.Common.{rules, ◌≡◌, length}
use Rattle.octagon_leaf.specs.Greatest.{difference}
use Rattle.octagon_leaf.specs.Laws.Matrices.{start-bounded, start-best}
use Rattle.octagon_leaf.proofs.Full.{best-full, best-large}
use Rattle.octagon_leaf.specs.Greatest.{matrix_of}
use Rattle.octagon_leaf.proofs.filled.differences.Goals as goal

pub filled-requires-clause-large : goal.filled-requires-clause-large
filled-requires-clause-large c = λ a b r h k d p.
    let s = c.args.values.now in
    let e : r ≡ difference s a b = search rules in
    rw (e) (best-large (matrix_of (length s) (difference s)) (length s) (difference s) a b (start-bounded s c.requires.few c.requires.int) (start-best s) h k)

pub returns-clause-entries : goal.returns-clause-entries
returns-clause-entries c =
    let s = c.args.values.now in
    c.filled.ensures.entries (difference s) (best-full (matrix_of (length s) (difference s)) (length s) (difference s) (start-bounded s c.requires.few c.requires.int) (start-best s)) (λ a b r h k d p. search rules)
