use Rattle.std.proofs.Common.{length}
use Rattle.atom_solver.proofs.Learned.{atom_fit}
use Rattle.tree_questions.proofs.evaluating.truth_at.Goals as goal

pub truth-requires-clause-atom : goal.truth-requires-clause-atom
truth-requires-clause-atom c =
    atom_fit (length c.args.config.now.values) c.args.atoms.now c.args.test c.index-atoms-test.result c.requires.atoms c.requires.test c.index-atoms-test.is
