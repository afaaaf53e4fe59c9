use Rattle.std.proofs.Common.{◌≡◌, ◌++◌, length}
use Rattle.atom_solver.proofs.end_forms.copies.Given as goal

abbrev pub invariant-forms : goal.invariant-forms
invariant-forms l = l.made.items ++ l.rest ≡ l.initial.rest

abbrev pub decreases-forms : goal.decreases-forms
decreases-forms l = length l.rest
