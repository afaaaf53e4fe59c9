use Rattle.c_tree.specs.Fit.{IsTermOf}
use Rattle.c_tree.specs.View.{term}
use Rattle.leaf_tests.proofs.transfer.nested.Given as goal

abbrev pub invariant-deeper : goal.invariant-deeper
invariant-deeper l = IsTermOf 2 (term l.e)
