use Rattle.std.proofs.Common.{◌≡◌, map, take}
use Rattle.c_tree.specs.View.{front}
use Rattle.c_tree.proofs.copies.+copy.Given as goal

abbrev pub invariant-copy_list-loop-s : goal.invariant-copy_list-loop-s
invariant-copy_list-loop-s l = map front l.made.items ≡ map front (take l.s-index l.list)
