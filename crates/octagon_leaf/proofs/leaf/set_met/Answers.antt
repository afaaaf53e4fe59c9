use Rattle.octagon_leaf.specs.Octagons.{dropped}
use Rattle.octagon_leaf.specs.Shapes.{between}
use Rattle.octagon_leaf.specs.Laws.Best.{best-own}
use Rattle.octagon_leaf.specs.Laws.Meets.{bounded-kept}
use Rattle.octagon_leaf.specs.Laws.Terms.{bounded-dropped}
use Rattle.octagon_leaf.specs.Laws.OctagonLaws.{between-meets}
use Rattle.octagon_leaf.proofs.Closed.{settled-set}
use Rattle.octagon_leaf.proofs.Assigning.{SetMatrix}
use Rattle.octagon_leaf.proofs.leaf.set_met.Goals as goal

pub met-requires-clause-best : goal.met-requires-clause-best
met-requires-clause-best c = best-own (SetMatrix c.args.matrix.now c.args.x c.args.r) c.in_ok-with_range.field-0 c.in_ok-with_range.ensures.best

pub returns : goal.returns
returns c =
    let m = c.args.matrix.now in
    settled-set (dropped m c.args.x) c.in_ok-with_range.field-0 c.args.meets.now (between c.args.x c.args.r) c.met.result (bounded-dropped m c.args.x (bounded-kept m c.variables-variables.ensures.kept)) c.requires.meets (between-meets m.variables c.args.x c.args.r c.requires.x) c.in_ok-with_range.ensures.best c.in_ok-with_range.ensures.kept c.met.ensures
