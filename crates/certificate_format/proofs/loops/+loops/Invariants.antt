use Rattle.std.proofs.Common.{◌≡◌, ◌++◌, take}
use Rattle.c_tree.specs.View.{code}
use Rattle.lifted_analysis.specs.Turns.{loop_places}
use Rattle.certificate_format.proofs.loops.+loops.Given as goal

abbrev pub invariant-push_loops-loop-s : goal.invariant-push_loops-loop-s
invariant-push_loops-loop-s l = l.out.items ≡ l.initial.out.items ++ loop_places (code (take l.s-index l.list))
