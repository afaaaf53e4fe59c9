use Rattle.std.proofs.Common.{length}
use Rattle.atom_solver.proofs.parting.+terms_are.Given as goal

abbrev pub decreases-terms_are : goal.decreases-terms_are
decreases-terms_are l = length l.terms.now
