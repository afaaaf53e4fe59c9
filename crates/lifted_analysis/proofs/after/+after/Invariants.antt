use Rattle.std.proofs.Common.{◌≡◌, ◌+◌, ◌*◌, ◌-◌, take, List, Bool}
use Rattle.c_tree.specs.Tree.{Done}
use Rattle.c_tree.specs.View.{front, code}
use Rattle.decision_tree.specs.Listed.{Keeps}
use Rattle.decision_tree.specs.Plain.{leaf_of}
use Rattle.decision_tree.specs.View.{plain}
use Rattle.plain_analysis.specs.Loops.{rounds_of, widened_leaf, narrowings_of}
use Rattle.plain_analysis.specs.View.{parts_of}
use Rattle.plain_analysis.proofs.Sizes.{size_of, size_in}
use Rattle.lifted_analysis.specs.Finals.{Remembers}
use Rattle.lifted_analysis.specs.Heads.{IsHeadOf, turns_over, final_over}
use Rattle.lifted_analysis.specs.States.{AreMade, ways_at}
use Rattle.lifted_analysis.specs.Steps.{after_at}
use Rattle.lifted_analysis.proofs.after.+after.Given as goal

-- what the statements so far make of what was passed
abbrev pub invariant-after_list-loop-s : goal.invariant-after_list-loop-s
invariant-after_list-loop-s g l =
    record {
      made : AreMade g.L.Leaf.value l.family l.fn.tables.leaves l.tables.leaves (λ v. after_at g.L.Leaf.meaning l.family (code (take l.s-index l.list)) v (ways_at g.L.Leaf.value l.fn.ways v)) l.made;
      memory : Remembers g.L.Leaf.value g.L.Leaf.meaning l.family l.tables.leaves l.finals;
    }

-- at each vector, the rounds that are left lead from here to where all lead from the start
abbrev pub invariant-widened-loop-k : goal.invariant-widened-loop-k
invariant-widened-loop-k g l =
    let value = g.L.Leaf.value in
    let M = g.L.Leaf.meaning in
    let family = l.family in
    let G = turns_over value M family l.the_loop (plain l.t) in
    record {
      rest : (v : List Bool) → rounds_of M family.options.now.thresholds family.options.now.delay (G v) (l.rounds - l.k) l.k (value (leaf_of (plain l.head.at) v)) ≡ widened_leaf M family.options.now.thresholds family.options.now.delay (G v) (value (leaf_of (plain l.t) v));
      head : IsHeadOf value family l.tables.leaves G l.head;
      keeps : Keeps l.fn.tables.leaves l.tables.leaves;
      memory : Remembers value M family l.tables.leaves l.finals;
    }

abbrev pub invariant-final_by_rounds-loop-k : goal.invariant-final_by_rounds-loop-k
invariant-final_by_rounds-loop-k g l =
    let value = g.L.Leaf.value in
    let M = g.L.Leaf.meaning in
    let family = l.family in
    let G = turns_over value M family l.the_loop (plain l.t) in
    record {
      rest : (v : List Bool) → narrowings_of M family.options.now.thresholds (G v) (family.options.now.narrow - l._k) (value (leaf_of (plain l.head.at) v)) ≡ final_over M family l.the_loop v (value (leaf_of (plain l.t) v));
      head : IsHeadOf value family l.tables.leaves G l.head;
      keeps : Keeps l.fn.tables.leaves l.tables.leaves;
      memory : Remembers value M family l.tables.leaves l.finals;
    }

-- the size of the statements, and then the order of the calls
abbrev pub decreases-after_stmt : goal.decreases-after_stmt
decreases-after_stmt g l = 12 * size_of (front l.s.now Done)

abbrev pub decreases-after_list : goal.decreases-after_list
decreases-after_list g l = 12 * size_of (code l.list.now) + 1

abbrev pub decreases-after_both : goal.decreases-after_both
decreases-after_both g l = 12 * (size_of (code l.yes.now) + size_of (code l.no.now)) + 2

abbrev pub decreases-after_if : goal.decreases-after_if
decreases-after_if g l = 12 * (size_of (code l.yes.now) + size_of (code l.no.now)) + 3

abbrev pub decreases-after_group : goal.decreases-after_group
decreases-after_group g l = 12 * (size_of (code l.yes.now) + size_of (code l.no.now)) + 3

abbrev pub decreases-through_body : goal.decreases-through_body
decreases-through_body g l = 12 * size_in (parts_of l.the_loop.now.parts) + 2

abbrev pub decreases-lap : goal.decreases-lap
decreases-lap g l = 12 * size_in (parts_of l.the_loop.now.parts) + 3

abbrev pub decreases-head_at : goal.decreases-head_at
decreases-head_at g l = 12 * size_in (parts_of l.the_loop.now.parts) + 4

abbrev pub decreases-widened : goal.decreases-widened
decreases-widened g l = 12 * size_in (parts_of l.the_loop.now.parts) + 5

abbrev pub decreases-narrowed : goal.decreases-narrowed
decreases-narrowed g l = 12 * size_in (parts_of l.the_loop.now.parts) + 5

abbrev pub decreases-final_by_rounds : goal.decreases-final_by_rounds
decreases-final_by_rounds g l = 12 * size_in (parts_of l.the_loop.now.parts) + 6

abbrev pub decreases-final_tree : goal.decreases-final_tree
decreases-final_tree g l = 12 * size_in (parts_of l.the_loop.now.parts) + 7

abbrev pub decreases-after_loop : goal.decreases-after_loop
decreases-after_loop g l = 12 * size_in (parts_of l.the_loop.now.parts) + 8
