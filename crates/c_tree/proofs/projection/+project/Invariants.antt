use Rattle.std.proofs.Common.{◌≡◌, take}
use Rattle.c_tree.specs.Tree.{followed}
use Rattle.c_tree.specs.View.{code}
use Rattle.c_tree.specs.Project.{projected}
use Rattle.c_tree.proofs.projection.+project.Given as goal

abbrev pub invariant-project_list-loop-s : goal.invariant-project_list-loop-s
invariant-project_list-loop-s l = code l.out.items ≡ followed (code l.initial.out.items) (projected l.truths (code (take l.s-index l.list)))
