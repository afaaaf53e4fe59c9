use Rattle.std.proofs.Common.{length}
use Rattle.atom_solver.proofs.searching.is_out.Goals as goal

pub is_untrue-requires-clause-atoms : goal.is_untrue-requires-clause-atoms
is_untrue-requires-clause-atoms c = c.requires.asked.fit (length c.args.spans.now) c.requires.constraints c.requires.wanted
