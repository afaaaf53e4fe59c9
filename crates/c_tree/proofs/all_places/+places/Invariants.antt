use Rattle.std.proofs.Common.{◌≡◌, ◌++◌, take}
use Rattle.c_tree.specs.View.{code}
use Rattle.c_tree.specs.Places.{places_of}
use Rattle.c_tree.proofs.all_places.+places.Given as goal

abbrev pub invariant-places_of_list-loop-s : goal.invariant-places_of_list-loop-s
invariant-places_of_list-loop-s l = l.out.items ≡ l.initial.out.items ++ places_of (code (take l.s-index l.list))
