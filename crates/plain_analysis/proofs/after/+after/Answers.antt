use Rattle.std.proofs.Common.{rules, arith, ◌≡◌, ◌-◌, sym, subst, ap, ◌∙◌, IfOk, if◌then◌else◌, nat_lt}
use Rattle.c_tree.specs.Tree.{Done}
use Rattle.c_tree.specs.View.{front, code, whole}
use Rattle.c_tree.specs.Fit.{IsCodeOf}
use Rattle.leaf_domain.specs.Leaves.{LeafValue}
use Rattle.plain_analysis.specs.Heads.{turns_of}
use Rattle.plain_analysis.specs.Loops.{final_leaf}
use Rattle.plain_analysis.specs.Stated.{HasLoopsOf}
use Rattle.plain_analysis.specs.Statements.{after_of, lap_of}
use Rattle.plain_analysis.specs.View.{parts_of, ways_of, AreOver}
use Rattle.plain_analysis.proofs.FinalsLemmas.{recalled, remembered, is_final, same_made}
use Rattle.plain_analysis.proofs.Nothing.{after_stays, loop_stays}
use Rattle.plain_analysis.proofs.Listed.{IsCodeOf-at, after_of-take_more, after-While, after-Do, fit_over}
use Rattle.plain_analysis.proofs.StatedLemmas.{loops-at}
use Rattle.plain_analysis.proofs.Sizes.{size-at}
use Rattle.plain_analysis.proofs.Rounds.{rounds_stay, rounds_move, narrowings_stay, narrowings_move}
use Rattle.plain_analysis.proofs.ViewLemmas.{over_as}
use Rattle.plain_analysis.proofs.after.+after.Goals as goal

pub after_list-returns-then-is_nothing-clause-value : goal.after_list-returns-then-is_nothing-clause-value
after_list-returns-then-is_nothing-clause-value g t c =
    let o = c.args.task.now.options.now in
    sym (after_stays g.L.Leaf.meaning g.met.L.Leaf.laws o (c.transfer_is_sound.ensures.answers o.mode) (ways_of g.L.Leaf.value c.args.ways) c.leaf_is_valid.ensures.few (sym c.is_nothing.ensures ∙ c.if-is_nothing.true) (code c.args.list.now))

pub after_list-after_stmt-requires : goal.after_list-after_stmt-requires
after_list-after_stmt-requires g t c κs within =
    let value = g.L.Leaf.value in
    let s = c.s-item.result in
    let made = c.loop-s.made in
    let same = c.loop-s.invariant.over.behind in
    let p = whole c.args.task.now.program.now in
    let fit : IsCodeOf (value made.behind).variables (front s Done)
    = fit_over (front s Done) _ _ same (IsCodeOf-at (value c.args.ways.behind).variables c.args.list.now c.loop-s.s-index s c.loop-s-test.true c.s-item.is c.requires.part.0) in
    let loops : HasLoopsOf p (front s Done) = loops-at p c.args.list.now c.loop-s.s-index s c.loop-s-test.true c.s-item.is c.requires.part.1 in
    let over : AreOver value (value made.behind).variables made = over_as value made _ _ same c.loop-s.invariant.over in
    let memory = c.loop-s.invariant.memory in
    (omega (arith, size-at c.args.list.now c.loop-s.s-index s c.loop-s-test.true c.s-item.is), search rules)

pub after_list-loop-s-preserved : goal.after_list-loop-s-preserved
after_list-loop-s-preserved g t c =
    let value = g.L.Leaf.value in
    let M = g.L.Leaf.meaning in
    let o = c.args.task.now.options.now in
    let s = c.s-item.result in
    let made = c.in_ok-made.ensures in
    record {
      made = made.value ∙ (ap (after_of M o (front s Done)) c.loop-s.invariant.made
          ∙ sym (after_of-take_more M o c.args.list.now c.loop-s.s-index s (ways_of value c.args.ways) c.loop-s-test.true c.s-item.is));
      over = over_as value c.in_ok-made.made _ _ (sym c.loop-s.invariant.over.behind) made.over;
      memory = made.memory;
    }

pub after_stmt-returns-then-is_nothing-clause-value : goal.after_stmt-returns-then-is_nothing-clause-value
after_stmt-returns-then-is_nothing-clause-value g t c =
    let o = c.args.task.now.options.now in
    sym (after_stays g.L.Leaf.meaning g.met.L.Leaf.laws o (c.transfer_is_sound.ensures.answers o.mode) (ways_of g.L.Leaf.value c.args.ways) c.leaf_is_valid.ensures.few (sym c.is_nothing.ensures ∙ c.if-is_nothing.true) (front c.args.s.now Done))

pub after_stmt-returns-in-While-clause-value : goal.after_stmt-returns-in-While-clause-value
after_stmt-returns-in-While-clause-value g t c =
    let value = g.L.Leaf.value in
    let w = c.in-While in
    let same = after-While g.L.Leaf.meaning c.args.task.now.options.now c.args.s.now w.place w.test w.step w.body c.deref-in-While.result.now c.deref-in-While-2.result.now (ways_of value c.args.ways) w.is c.deref-in-While.ensures.value c.deref-in-While-2.ensures.value in
    subst (λ u. IfOk c.after_loop.result (λ made. ways_of value made ≡ u)) same c.after_loop.ensures.value

pub after_stmt-returns-in-Do-clause-value : goal.after_stmt-returns-in-Do-clause-value
after_stmt-returns-in-Do-clause-value g t c =
    let value = g.L.Leaf.value in
    let w = c.in-Do in
    let same = after-Do g.L.Leaf.meaning c.args.task.now.options.now c.args.s.now w.place w.body w.test_place w.test c.deref-in-Do.result.now (ways_of value c.args.ways) w.is c.deref-in-Do.ensures.value in
    subst (λ u. IfOk c.after_loop-in-Do.result (λ made. ways_of value made ≡ u)) same c.after_loop-in-Do.ensures.value

pub final_by_rounds-returns-in-None-clause-value : goal.final_by_rounds-returns-in-None-clause-value
final_by_rounds-returns-in-None-clause-value g t c =
    let M = g.L.Leaf.meaning in
    let o = c.args.task.now.options.now in
    let G = turns_of M o c.args.the_loop.now (g.L.Leaf.value c.args.leaf.now) in
    sym (narrowings_stay M o.thresholds G (o.narrow - c.loop-k._k) (g.L.Leaf.value c.loop-k.head.at) (rw c.in-None.is at c.in_ok-narrowed.ensures.kept)) ∙ c.loop-k.invariant.rest

pub final_by_rounds-loop-k-preserved : goal.final_by_rounds-loop-k-preserved
final_by_rounds-loop-k-preserved g t c =
    let M = g.L.Leaf.meaning in
    let o = c.args.task.now.options.now in
    let G = turns_of M o c.args.the_loop.now (g.L.Leaf.value c.args.leaf.now) in
    record {
      rest = narrowings_move M o.thresholds G o.narrow c.loop-k._k (g.L.Leaf.value c.loop-k.head.at) (g.L.Leaf.value c.in-Some.next.at) _ c.loop-k-test.true (rw c.in-Some.is at c.in_ok-narrowed.ensures.taken) c.loop-k.invariant.rest;
      head = rw c.in-Some.is at c.in_ok-narrowed.ensures.head;
      memory = c.in_ok-narrowed.ensures.memory;
    }

pub widened-returns-in-None-clause-value : goal.widened-returns-in-None-clause-value
widened-returns-in-None-clause-value g t c =
    let M = g.L.Leaf.meaning in
    let o = c.args.task.now.options.now in
    let G = turns_of M o c.args.the_loop.now (g.L.Leaf.value c.args.leaf.now) in
    let at = g.L.Leaf.value c.loop-k.head.at in
    let stable = ap (λ v. M.leq v at) (sym c.loop-k.invariant.head.next) ∙ (rw c.in-None.is at c.in_ok-moved.ensures.stable) in
    sym (rounds_stay M o.thresholds o.delay G (c.round_count-rounds.result - c.loop-k.k) c.loop-k.k at stable) ∙ c.loop-k.invariant.rest

pub widened-loop-k-preserved : goal.widened-loop-k-preserved
widened-loop-k-preserved g t c =
    let M = g.L.Leaf.meaning in
    let o = c.args.task.now.options.now in
    let value = g.L.Leaf.value in
    let G = turns_of M o c.args.the_loop.now (value c.args.leaf.now) in
    let x = value c.loop-k.head.at in
    let w = value c.loop-k.head.next in
    let next = c.in_ok-head-in-Some.ensures in
    let moved = subst (λ d. value c.in-Some.made ≡ (if nat_lt c.loop-k.k d then M.join x w else M.widen o.thresholds x w)) c.from-delay.ensures (rw c.in-Some.is at c.in_ok-moved.ensures.value) in
    record {
      rest = rounds_move M o.thresholds o.delay G c.round_count-rounds.result c.loop-k.k x w (value c.in_ok-head-in-Some.head.at) _ c.loop-k-test.true c.loop-k.invariant.head.next (rw c.in-Some.is at c.in_ok-moved.ensures.moved) (next.at ∙ moved) c.loop-k.invariant.rest;
      head = next.head;
      memory = next.memory;
    }

pub final_leaf-returns-then-is_nothing-clause-value : goal.final_leaf-returns-then-is_nothing-clause-value
final_leaf-returns-then-is_nothing-clause-value g t c =
    let value = g.L.Leaf.value in
    let v = value c.args.leaf.now in
    let o = c.args.task.now.options.now in
    let stays = loop_stays g.L.Leaf.meaning g.met.L.Leaf.laws o (c.transfer_is_sound.ensures.answers o.mode) v c.leaf_is_valid.ensures.few (sym c.is_nothing.ensures ∙ c.if-is_nothing.true) (parts_of c.args.the_loop.now.parts) in
    subst (λ u. IfOk c.copy.result (λ made. value made ≡ u)) (sym stays) c.copy.ensures

pub final_leaf-returns-in-Some-clause-value : goal.final_leaf-returns-in-Some-clause-value
final_leaf-returns-in-Some-clause-value g t c =
    let value = g.L.Leaf.value in
    let M = g.L.Leaf.meaning in
    let o = c.args.task.now.options.now in
    let l = parts_of c.args.the_loop.now.parts in
    let known = recalled g.L.PartialEq.eq g.met.L.Leaf.exact value M c.args.task.now c.args.finals.now c.args.the_loop.now.place c.in_ok-entered.entered c.in-Some.last.now c.requires.memory (search rules) in
    let is = known.final l c.requires.own.here ∙ ap (final_leaf M o (lap_of M o l)) c.in_ok-entered.ensures in
    subst (λ u. IfOk c.copy-in-Some.result (λ made. value made ≡ u)) is c.copy-in-Some.ensures

pub final_leaf-returns-in-Some-clause-same : goal.final_leaf-returns-in-Some-clause-same
final_leaf-returns-in-Some-clause-same g t c =
    let value = g.L.Leaf.value in
    let known = recalled g.L.PartialEq.eq g.met.L.Leaf.exact value g.L.Leaf.meaning c.args.task.now c.args.finals.now c.args.the_loop.now.place c.in_ok-entered.entered c.in-Some.last.now c.requires.memory (search rules) in
    same_made value c.copy-in-Some.result (value c.in-Some.last.now) (value c.args.leaf.now).variables (known.same ∙ ap (λ (v : LeafValue). v.variables) c.in_ok-entered.ensures) c.copy-in-Some.ensures

pub final_leaf-returns-clause-memory : goal.final_leaf-returns-clause-memory
final_leaf-returns-clause-memory g t c =
    let value = g.L.Leaf.value in
    let M = g.L.Leaf.meaning in
    let o = c.args.task.now.options.now in
    let l = parts_of c.args.the_loop.now.parts in
    let last = c.in_ok-last.ensures in
    let same : (value c.in_ok-kept.kept).variables ≡ (value c.in_ok-entered.entered).variables = ap (λ (v : LeafValue). v.variables) c.in_ok-kept.ensures ∙ (last.same ∙ ap (λ (v : LeafValue). v.variables) (sym c.in_ok-entered.ensures)) in
    let is : value c.in_ok-kept.kept ≡ final_leaf M o (lap_of M o l) (value c.in_ok-entered.entered) = c.in_ok-kept.ensures ∙ (last.value ∙ ap (final_leaf M o (lap_of M o l)) (sym c.in_ok-entered.ensures)) in
    remembered g.L.PartialEq.eq g.met.L.Leaf.exact value M c.args.task.now c.final_by_rounds.new.finals _ c.args.the_loop.now.place c.in_ok-entered.entered c.in_ok-kept.kept last.memory
    (is_final value M c.args.task.now c.args.the_loop.now.place c.in_ok-entered.entered c.in_ok-kept.kept l c.requires.own.here same is) c.in_ok-remember.ensures
