use Rattle.atom_solver.proofs.Narrowed.{small_at}
use Rattle.atom_solver.proofs.range_ends.range_at.Goals as goal

pub returns-clause-low : goal.returns-clause-low
returns-clause-low c = (small_at c.args.spans.now c.args.place c.span_at.result.now c.requires.place c.span_at.ensures c.requires.ranges).low

pub returns-clause-high : goal.returns-clause-high
returns-clause-high c = (small_at c.args.spans.now c.args.place c.span_at.result.now c.requires.place c.span_at.ensures c.requires.ranges).high
