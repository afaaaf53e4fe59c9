use Rattle.std.proofs.Common.{rules, ◌≡◌, ◌<◌, ◌*◌, arith}
use Rattle.octagon_leaf.specs.Octagons.{widened}
use Rattle.octagon_leaf.specs.Laws.Matrices.{widened-full, widened-large}
use Rattle.octagon_leaf.proofs.filled.widened.Goals as goal

pub filled-requires-clause-large : goal.filled-requires-clause-large
filled-requires-clause-large c = λ a b r h k d p.
    let e : r ≡ widened c.args.thresholds.now c.args.x.now c.args.g.now a b = search rules in
    let i : a < 2 * c.args.x.now.variables = omega (arith, c.variables.ensures.value) in
    let j : b < 2 * c.args.x.now.variables = omega (arith, c.variables.ensures.value) in
    rw (e) (widened-large c.args.thresholds.now c.args.x.now c.args.g.now a b c.variables.ensures.kept c.variables-same.ensures.kept c.requires i j)

pub returns-clause-entries : goal.returns-clause-entries
returns-clause-entries c =
    rw (c.variables.ensures.value) at c.filled.ensures.entries (widened c.args.thresholds.now c.args.x.now c.args.g.now) (widened-full c.args.thresholds.now c.args.x.now c.args.g.now c.variables.ensures.kept c.variables-same.ensures.kept c.requires) (λ a b r h k d p. search rules)
