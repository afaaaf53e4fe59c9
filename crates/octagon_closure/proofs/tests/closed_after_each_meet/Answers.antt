use Rattle.std.proofs.Common.{arith, pos, refl}
use Rattle.octagon_closure.proofs.tests.closed_after_each_meet.Goals as goal

pub close_after_one-requires-2-clause-came : goal.close_after_one-requires-2-clause-came
close_after_one-requires-2-clause-came g c = record {
  origin = c.meet_entry.new.self;
  before = c.close_after_one.new.matrix;
  best = c.in-Closed-close_after_one.ensures.best refl;
  apart = omega arith;
  bound = pos 0;
  entries = c.meet_entry-2.ensures.entries;
}
