use Rattle.std.proofs.Common.{◌≡◌}
use Rattle.c_tree.specs.View.{code}
use Rattle.analysis_tests.specs.Families.{restarted_loops}
use Rattle.analysis_tests.proofs.families.restarted.Given as goal

-- the loops so far
abbrev pub invariant-loop-k : goal.invariant-loop-k
invariant-loop-k l = code l.body.items ≡ restarted_loops l.k
