use Rattle.std.proofs.Common.{rules, ◌≡◌}
use Rattle.octagon_leaf.specs.Greatest.{matrix_of}
use Rattle.octagon_closure.specs.Best.{IsBest}
use Rattle.octagon_leaf.specs.Filling.{set_entry}
use Rattle.octagon_leaf.proofs.Full.{best-full, best-large, best-result}
use Rattle.octagon_leaf.proofs.Assigning.{SetMatrix, set-bounded, set-best}
use Rattle.octagon_leaf.proofs.filled.with_range.Goals as goal

pub filled-requires-clause-callable : goal.filled-requires-clause-callable
filled-requires-clause-callable c = λ a b h k d. search rules

pub filled-requires-clause-large : goal.filled-requires-clause-large
filled-requires-clause-large c = λ a b r h k d p.
    let m = c.args.matrix.now in
    let q : IsBest (SetMatrix m c.args.x c.args.r) (matrix_of m.variables (set_entry m c.args.x c.args.r)) = set-best m c.args.x c.args.r c.variables.ensures.kept c.requires.best c.requires.x c.requires.int c.requires.some in
    let e : r ≡ set_entry m c.args.x c.args.r a b = search rules in
    rw (e) (best-large (SetMatrix m c.args.x c.args.r) m.variables (set_entry m c.args.x c.args.r) a b (set-bounded m c.args.x c.args.r c.variables.ensures.kept) q (rw (c.variables.ensures.value) at h) (rw (c.variables.ensures.value) at k))

pub returns-clause-best : goal.returns-clause-best
returns-clause-best c =
    let m = c.args.matrix.now in
    let q : IsBest (SetMatrix m c.args.x c.args.r) (matrix_of m.variables (set_entry m c.args.x c.args.r)) = set-best m c.args.x c.args.r c.variables.ensures.kept c.requires.best c.requires.x c.requires.int c.requires.some in
    let f = best-full (SetMatrix m c.args.x c.args.r) m.variables (set_entry m c.args.x c.args.r) (set-bounded m c.args.x c.args.r c.variables.ensures.kept) q in
    best-result c.filled.result (SetMatrix m c.args.x c.args.r) c.variables.result m.variables (set_entry m c.args.x c.args.r) c.variables.ensures.value q
    (c.filled.ensures.entries (set_entry m c.args.x c.args.r) (rw (c.variables.ensures.value) f) (λ a b r h k d p. search rules)) c.filled.ensures.kept
