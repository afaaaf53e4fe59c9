use Rattle.std.proofs.Common.{◌≡◌, take}
use Rattle.c_tree.specs.View.{code}
use Rattle.loop_thresholds.specs.Numbers.{numbers_of}
use Rattle.loop_thresholds.specs.Keeping.{keep_near}
use Rattle.loop_thresholds.proofs.keeping.+walk.Given as goal

abbrev pub invariant-keep_list-loop-s : goal.invariant-keep_list-loop-s
invariant-keep_list-loop-s l = l.kept.items ≡ keep_near l.initial.kept.items (numbers_of (code (take l.s-index l.list)))
