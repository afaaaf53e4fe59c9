use Rattle.std.proofs.Common.{◌≡◌, ◌+◌, ◌*◌, take}
use Rattle.c_tree.specs.Tree.{Done}
use Rattle.c_tree.specs.View.{front, code}
use Rattle.plain_analysis.specs.Statements.{after_of, entries_of}
use Rattle.plain_analysis.specs.Entered.{HasEntered}
use Rattle.plain_analysis.specs.Finals.{Remembers}
use Rattle.plain_analysis.specs.View.{parts_of, ways_of, AreOver}
use Rattle.plain_analysis.proofs.Sizes.{size_of, size_in}
use Rattle.plain_analysis.proofs.entries.+enter.Given as goal

-- what the statements so far make of what was passed, and these entered
abbrev pub invariant-enter_list-loop-s : goal.invariant-enter_list-loop-s
invariant-enter_list-loop-s g l =
    let value = g.L.Leaf.value in
    let M = g.L.Leaf.meaning in
    let o = l.task.options.now in
    record {
      made : ways_of value l.made ≡ after_of M o (code (take l.s-index l.list)) (ways_of value l.fn.ways);
      over : AreOver value (value l.fn.ways.behind).variables l.made;
      entered : HasEntered value M o l.initial.noted l.noted (entries_of M o (code (take l.s-index l.list)) (ways_of value l.fn.ways));
      memory : Remembers value M l.task l.finals;
    }

-- the size of the statements, and then the order of the calls
abbrev pub decreases-enter_stmt : goal.decreases-enter_stmt
decreases-enter_stmt g l = 5 * size_of (front l.s.now Done)

abbrev pub decreases-enter_list : goal.decreases-enter_list
decreases-enter_list g l = 5 * size_of (code l.list.now) + 1

abbrev pub decreases-enter_choice : goal.decreases-enter_choice
decreases-enter_choice g l = 5 * (size_of (code l.yes.now) + size_of (code l.no.now)) + 2

abbrev pub decreases-enter_lap : goal.decreases-enter_lap
decreases-enter_lap g l = 5 * size_in (parts_of l.the_loop.now.parts) + 3

abbrev pub decreases-enter_loop : goal.decreases-enter_loop
decreases-enter_loop g l = 5 * size_in (parts_of l.the_loop.now.parts) + 4
