use Rattle.std.proofs.Common.{◌+◌, ◌*◌, take}
use Rattle.c_tree.specs.Tree.{Done}
use Rattle.c_tree.specs.View.{front, code}
use Rattle.decision_tree.specs.View.{plain}
use Rattle.plain_analysis.specs.View.{parts_of}
use Rattle.plain_analysis.proofs.Sizes.{size_of, size_in}
use Rattle.lifted_analysis.specs.Entries.{entered_with, HasEntered}
use Rattle.lifted_analysis.specs.Rules.{Knows, heads_in, passed_with}
use Rattle.lifted_analysis.specs.States.{AreMade, ways_at}
use Rattle.lifted_analysis.proofs.entries.+enter.Given as goal

-- what the statements so far make of what was passed, and these entered
abbrev pub invariant-enter_list-loop-s : goal.invariant-enter_list-loop-s
invariant-enter_list-loop-s g l =
    let value = g.L.Leaf.value in
    let M = g.L.Leaf.meaning in
    record {
      made : AreMade value l.family l.fn.tables.leaves l.tables.leaves (λ v. passed_with M l.family (heads_in value M l.family l.rule (plain l.here)) (code (take l.s-index l.list)) v (ways_at value l.fn.ways v)) l.made;
      entered : HasEntered value M l.family l.fn.noted l.noted (entered_with value M l.family (heads_in value M l.family l.rule (plain l.here)) (code (take l.s-index l.list)) l.fn.ways);
      memory : Knows value M l.family l.rule l.tables.leaves l.finals;
    }

-- the size of the statements, and then the order of the calls
abbrev pub decreases-enter_stmt : goal.decreases-enter_stmt
decreases-enter_stmt g l = 6 * size_of (front l.s.now Done)

abbrev pub decreases-enter_list : goal.decreases-enter_list
decreases-enter_list g l = 6 * size_of (code l.list.now) + 1

abbrev pub decreases-enter_both : goal.decreases-enter_both
decreases-enter_both g l = 6 * (size_of (code l.yes.now) + size_of (code l.no.now)) + 2

abbrev pub decreases-enter_if : goal.decreases-enter_if
decreases-enter_if g l = 6 * (size_of (code l.yes.now) + size_of (code l.no.now)) + 3

abbrev pub decreases-enter_group : goal.decreases-enter_group
decreases-enter_group g l = 6 * (size_of (code l.yes.now) + size_of (code l.no.now)) + 3

abbrev pub decreases-enter_lap : goal.decreases-enter_lap
decreases-enter_lap g l = 6 * size_in (parts_of l.the_loop.now.parts) + 2

abbrev pub decreases-enter_loop : goal.decreases-enter_loop
decreases-enter_loop g l = 6 * size_in (parts_of l.the_loop.now.parts) + 3
