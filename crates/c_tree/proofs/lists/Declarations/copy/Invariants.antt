use Rattle.std.proofs.Common.{◌≡◌, take}
use Rattle.c_tree.proofs.lists.Declarations.copy.Given as goal

abbrev pub invariant-loop-d : goal.invariant-loop-d
invariant-loop-d l = l.list.items ≡ take l.d-index l.d-items
