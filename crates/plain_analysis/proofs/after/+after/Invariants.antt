use Rattle.std.proofs.Common.{◌≡◌, ◌+◌, ◌*◌, ◌-◌, take}
use Rattle.c_tree.specs.Tree.{Done}
use Rattle.c_tree.specs.View.{front, code}
use Rattle.plain_analysis.specs.Finals.{Remembers}
use Rattle.plain_analysis.specs.Heads.{IsHead, turns_of, final_of}
use Rattle.plain_analysis.specs.Loops.{rounds_of, widened_leaf, narrowings_of}
use Rattle.plain_analysis.specs.Statements.{after_of}
use Rattle.plain_analysis.specs.View.{parts_of, ways_of, AreOver}
use Rattle.plain_analysis.proofs.Sizes.{size_of, size_in}
use Rattle.plain_analysis.proofs.after.+after.Given as goal

-- what the statements so far make of what was passed
abbrev pub invariant-after_list-loop-s : goal.invariant-after_list-loop-s
invariant-after_list-loop-s g l =
    let value = g.L.Leaf.value in
    record {
      made : ways_of value l.made ≡ after_of g.L.Leaf.meaning l.task.options.now (code (take l.s-index l.list)) (ways_of value l.fn.ways);
      over : AreOver value (value l.fn.ways.behind).variables l.made;
      memory : Remembers value g.L.Leaf.meaning l.task l.finals;
    }

-- the rounds that are left lead from here to where all lead from the start
abbrev pub invariant-widened-loop-k : goal.invariant-widened-loop-k
invariant-widened-loop-k g l =
    let value = g.L.Leaf.value in
    let M = g.L.Leaf.meaning in
    let o = l.task.options.now in
    let G = turns_of M o l.the_loop (value l.leaf) in
    record {
      rest : rounds_of M o.thresholds o.delay G (l.rounds - l.k) l.k (value l.head.at) ≡ widened_leaf M o.thresholds o.delay G (value l.leaf);
      head : IsHead value G (value l.leaf).variables l.head;
      memory : Remembers value M l.task l.finals;
    }

abbrev pub invariant-final_by_rounds-loop-k : goal.invariant-final_by_rounds-loop-k
invariant-final_by_rounds-loop-k g l =
    let value = g.L.Leaf.value in
    let M = g.L.Leaf.meaning in
    let o = l.task.options.now in
    let G = turns_of M o l.the_loop (value l.leaf) in
    record {
      rest : narrowings_of M o.thresholds G (o.narrow - l._k) (value l.head.at) ≡ final_of M o l.the_loop (value l.leaf);
      head : IsHead value G (value l.leaf).variables l.head;
      memory : Remembers value M l.task l.finals;
    }

-- the size of the statements, and then the order of the calls
abbrev pub decreases-after_stmt : goal.decreases-after_stmt
decreases-after_stmt g l = 10 * size_of (front l.s.now Done)

abbrev pub decreases-after_list : goal.decreases-after_list
decreases-after_list g l = 10 * size_of (code l.list.now) + 1

abbrev pub decreases-after_choice : goal.decreases-after_choice
decreases-after_choice g l = 10 * (size_of (code l.yes.now) + size_of (code l.no.now)) + 2

abbrev pub decreases-through_body : goal.decreases-through_body
decreases-through_body g l = 10 * size_in (parts_of l.the_loop.now.parts) + 2

abbrev pub decreases-lap : goal.decreases-lap
decreases-lap g l = 10 * size_in (parts_of l.the_loop.now.parts) + 3

abbrev pub decreases-turn : goal.decreases-turn
decreases-turn g l = 10 * size_in (parts_of l.the_loop.now.parts) + 4

abbrev pub decreases-head_at : goal.decreases-head_at
decreases-head_at g l = 10 * size_in (parts_of l.the_loop.now.parts) + 5

abbrev pub decreases-widened : goal.decreases-widened
decreases-widened g l = 10 * size_in (parts_of l.the_loop.now.parts) + 6

abbrev pub decreases-narrowed : goal.decreases-narrowed
decreases-narrowed g l = 10 * size_in (parts_of l.the_loop.now.parts) + 6

abbrev pub decreases-final_by_rounds : goal.decreases-final_by_rounds
decreases-final_by_rounds g l = 10 * size_in (parts_of l.the_loop.now.parts) + 7

abbrev pub decreases-final_leaf : goal.decreases-final_leaf
decreases-final_leaf g l = 10 * size_in (parts_of l.the_loop.now.parts) + 8

abbrev pub decreases-after_loop : goal.decreases-after_loop
decreases-after_loop g l = 10 * size_in (parts_of l.the_loop.now.parts) + 9
