use Rattle.std.proofs.Common.{◌≡◌, take}
use Rattle.c_tree.specs.Project.{projected_start}
use Rattle.c_tree.proofs.projection.start_values.Given as goal

abbrev pub invariant-loop-d : goal.invariant-loop-d
invariant-loop-d l = l.made.items ≡ projected_start l.truths (take l.d-index l.declared) l.start
