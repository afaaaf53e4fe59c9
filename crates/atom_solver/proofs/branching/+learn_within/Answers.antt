use Rattle.std.proofs.Common.{length, rules}
use Rattle.atom_solver.proofs.Learned.{atom_fit}
use Rattle.atom_solver.proofs.branching.+learn_within.Goals as goal

pub decided_within-requires-clause-atom : goal.decided_within-requires-clause-atom
decided_within-requires-clause-atom t c = atom_fit (length c.args.spans.now) c.args.atoms.now c.args.place c.index-atoms-place.result c.requires.atoms (search rules) (search rules)
