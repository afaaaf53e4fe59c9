use Rattle.leaf_domain.proofs.CutLemmas.{cut_in_int}
use Rattle.leaf_domain.proofs.sides.compare.Goals as goal

pub meet_variable-requires-clause-r : goal.meet_variable-requires-clause-r
meet_variable-requires-clause-r g c = rw c.cut-first.ensures (cut_in_int c.args.op c.args.a.range c.args.b.range c.requires.a.range c.requires.b.range)

pub meet_variable-requires-2-clause-r : goal.meet_variable-requires-2-clause-r
meet_variable-requires-2-clause-r g c = rw c.cut-second.ensures (cut_in_int _ c.args.b.range c.args.a.range c.requires.b.range c.requires.a.range)
