use Rattle.std.proofs.Common.{length}
use Rattle.atom_solver.proofs.refuting.+form_of.Given as goal

abbrev pub decreases-form_of : goal.decreases-form_of
decreases-form_of l = length l.forms.now
