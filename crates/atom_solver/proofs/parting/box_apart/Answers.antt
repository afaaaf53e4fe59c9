use Rattle.std.proofs.Common.{refl}
use Rattle.cpp_conditions.specs.View.{proposition}
use Rattle.atom_solver.proofs.Apart.{box_with}
use Rattle.atom_solver.proofs.parting.box_apart.Goals as goal

pub returns : goal.returns
returns c =
    let cs = c.args.constraints.now in
    box_with cs cs cs (proposition c.args.wanted.now) c.args.marks.now c.args.spans.now c.in_ok-inner.inner.items c.args.least.now c.items.result.now
    c.requires.ranges (c.are_apart.ensures c.if-not-are_apart.false) (c.reads.ensures c.if-not-reads.false) refl c.requires.least c.items.ensures c.in_ok-inner.ensures
