use Rattle.std.proofs.Common.{rules, arith, ◌≡◌, [], ◌∷◌, ◌+◌, take, sym, subst, ap, ◌∙◌, true, false}
use Rattle.std.specs.Prelude.{IfOk}
use Rattle.c_tree.specs.Tree.{Done, If}
use Rattle.c_tree.specs.View.{term, front, code, whole}
use Rattle.c_tree.specs.Fit.{IsCodeOf}
use Rattle.leaf_domain.specs.Transfer.{assumed}
use Rattle.plain_analysis.specs.Stated.{HasLoopsOf}
use Rattle.plain_analysis.specs.Statements.{TestFirst, TestLast, inside, after_of, entries_of, lap_entries}
use Rattle.plain_analysis.specs.Entered.{HasEntered}
use Rattle.plain_analysis.specs.View.{parts_of, ways_of, AreOver}
use Rattle.plain_analysis.specs.Ways.{Ways, onto, enter, going_on}
use Rattle.plain_analysis.proofs.Listed.{IsCodeOf-at, after_of-take_more, entries_of-take_more, after-While, after-Do, fit_over}
use Rattle.plain_analysis.proofs.Sizes.{size-at}
use Rattle.plain_analysis.proofs.StatedLemmas.{loops-at}
use Rattle.plain_analysis.proofs.ViewLemmas.{over_as}
use Rattle.plain_analysis.proofs.EnteredLemmas.{on_ok_by, entered_then, entered_as, entered_apart, loop_entries, entries-While, entries-Do, entries-Block}
use Rattle.plain_analysis.proofs.entries.+enter.Goals as goal

pub enter_list-enter_stmt-requires : goal.enter_list-enter_stmt-requires
enter_list-enter_stmt-requires g t c κs within =
    let value = g.L.Leaf.value in
    let s = c.s-item.result in
    let made = c.loop-s.made in
    let same = c.loop-s.invariant.over.behind in
    let p = whole c.args.task.now.program.now in
    let fit : IsCodeOf (value made.behind).variables (front s Done)
    = fit_over (front s Done) _ _ same (IsCodeOf-at (value c.args.ways.behind).variables c.args.list.now c.loop-s.s-index s c.loop-s-test.true c.s-item.is c.requires.part.0) in
    let loops : HasLoopsOf p (front s Done) = loops-at p c.args.list.now c.loop-s.s-index s c.loop-s-test.true c.s-item.is c.requires.part.1 in
    let over : AreOver value (value made.behind).variables made = over_as value made _ _ same c.loop-s.invariant.over in
    let memory = c.loop-s.invariant.memory in
    (omega (arith, size-at c.args.list.now c.loop-s.s-index s c.loop-s-test.true c.s-item.is), search rules)

pub enter_list-loop-s-preserved : goal.enter_list-loop-s-preserved
enter_list-loop-s-preserved g t c =
    let value = g.L.Leaf.value in
    let M = g.L.Leaf.meaning in
    let o = c.args.task.now.options.now in
    let w = ways_of value c.args.ways in
    let list = c.args.list.now in
    let i = c.loop-s.s-index in
    let s = c.s-item.result in
    let so_far = entries_of M o (code (take i list)) w in
    let here = entries_of M o (front s Done) (after_of M o (code (take i list)) w) in
    let new = c.in_ok-made.ensures in
    let entered = entered_as value M o c.loop-s.noted c.enter_stmt.new.noted _ here (ap (entries_of M o (front s Done)) c.loop-s.invariant.made) new.entered in
    record {
      made = new.value ∙ (ap (after_of M o (front s Done)) c.loop-s.invariant.made ∙ sym (after_of-take_more M o list i s w c.loop-s-test.true c.s-item.is));
      over = over_as value c.in_ok-made.made _ _ (sym c.loop-s.invariant.over.behind) new.over;
      entered = entered_as value M o c.args.noted.now c.enter_stmt.new.noted _ (entries_of M o (code (take (i + 1) list)) w) (sym (entries_of-take_more M o list i s w c.loop-s-test.true c.s-item.is))
          (entered_then value M o c.args.noted.now c.loop-s.noted c.enter_stmt.new.noted so_far here c.loop-s.invariant.entered entered);
      memory = new.memory;
    }

pub enter_choice-returns-clause-entered : goal.enter_choice-returns-clause-entered
enter_choice-returns-clause-entered g t c =
    let value = g.L.Leaf.value in
    let M = g.L.Leaf.meaning in
    let o = c.args.task.now.options.now in
    let w = ways_of value c.args.ways in
    let yes = code c.args.yes.now in
    let no = code c.args.no.now in
    let a = c.args.noted.now in
    let b = c.enter_list.new.noted in
    let z = c.enter_list-2.new.noted in
    let yes_in = onto w (assumed M o.mode (term c.args.test.now) true w.behind) in
    let no_in = onto (after_of M o yes yes_in) (assumed M o.mode (term c.args.test.now) false w.behind) in
    let yes_is = c.onto.ensures.value ∙ ap (onto w) c.in_ok-sides.ensures.when_true in
    let out = c.in_ok-after_yes.ensures.value ∙ ap (after_of M o yes) yes_is in
    let no_is = c.exchange-exchanged.ensures.value
    ∙ (ap (onto (ways_of value c.in_ok-after_yes.after_yes)) c.in_ok-sides.ensures.when_false ∙ ap (λ (u : Ways). onto u (assumed M o.mode (term c.args.test.now) false w.behind)) out) in
    entered_then value M o a b z (entries_of M o yes yes_in) (entries_of M o no no_in)
    (entered_as value M o a b _ (entries_of M o yes yes_in) (ap (entries_of M o yes) yes_is) c.in_ok-after_yes.ensures.entered)
    (entered_as value M o b z _ (entries_of M o no no_in) (ap (entries_of M o no) no_is) c.in_ok-after_no.ensures.entered)

pub enter_lap-returns-in_ok-append-in-TestFirst-clause-entered : goal.enter_lap-returns-in_ok-append-in-TestFirst-clause-entered
enter_lap-returns-in_ok-append-in-TestFirst-clause-entered g t c =
    let value = g.L.Leaf.value in
    let M = g.L.Leaf.meaning in
    let o = c.args.task.now.options.now in
    let x = value c.args.head.now in
    let i = c.in-TestFirst in
    let l = TestFirst (term i.test.now) (code i.step.now) (code i.body.now) in
    let a = c.args.noted.now in
    let b = c.enter_list-in-TestFirst.new.noted in
    let apart = c.enter_list.new.noted in
    let z = c.append.new.self in
    let body_in = enter (inside M o.mode l x) in
    let step_in = enter (going_on M (after_of M o (code i.body.now) body_in)) in
    let start = c.in_ok-start.ensures.value ∙ ap enter (c.in_ok-entered.ensures.value ∙ ap (λ p. inside M o.mode (parts_of p) x) i.is) in
    let left = c.in_ok-left-in-TestFirst.ensures.value ∙ ap (after_of M o (code i.body.now)) start in
    let stepping = c.in_ok-stepping-in-TestFirst.ensures.value ∙ ap enter (c.in_ok-on-in-TestFirst.ensures.value ∙ ap (going_on M) left) in
    let steps = entries_of M o (code i.step.now) step_in in
    let bodies = entries_of M o (code i.body.now) body_in in
    entered_as value M o a z (lap_entries M o l x) (lap_entries M o (parts_of c.args.the_loop.now.parts) x) (ap (λ p. lap_entries M o (parts_of p) x) (sym i.is))
    (entered_then value M o a b z steps bodies
    (entered_as value M o a b _ steps (ap (entries_of M o (code i.step.now)) stepping) c.in_ok-_stepped-in-TestFirst.ensures.entered)
    (entered_apart value M o c.new-in_body.result apart b z bodies c.new-in_body.ensures.places c.new-in_body.ensures.alarms
    (entered_as value M o c.new-in_body.result apart _ bodies (ap (entries_of M o (code i.body.now)) start) c.in_ok-left-in-TestFirst.ensures.entered)
    c.in_ok-append-in-TestFirst.ensures.places c.in_ok-append-in-TestFirst.ensures.alarms))

pub enter_lap-returns-in_ok-note_test-in-TestLast-clause-entered : goal.enter_lap-returns-in_ok-note_test-in-TestLast-clause-entered
enter_lap-returns-in_ok-note_test-in-TestLast-clause-entered g t c =
    let value = g.L.Leaf.value in
    let M = g.L.Leaf.meaning in
    let o = c.args.task.now.options.now in
    let x = value c.args.head.now in
    let i = c.in-TestLast in
    let l = TestLast (code i.body.now) i.test_place (term i.test.now) in
    let a = c.args.noted.now in
    let b = c.enter_list-in-TestLast.new.noted in
    let z = c.note_test.new.noted in
    let start = c.in_ok-start.ensures.value ∙ ap enter (c.in_ok-entered.ensures.value ∙ ap (λ p. inside M o.mode (parts_of p) x) i.is) in
    let left = c.in_ok-left-in-TestLast.ensures.value ∙ ap (after_of M o (code i.body.now)) start in
    let on = c.in_ok-on-in-TestLast.ensures.value ∙ ap (going_on M) left in
    let bodies = entries_of M o (code i.body.now) (enter x) in
    let tests = record { place = i.test_place; statement = If i.test_place (term i.test.now) Done Done Done; leaf = going_on M (after_of M o (code i.body.now) (enter x)) } ∷ [] in
    entered_as value M o a z (lap_entries M o l x) (lap_entries M o (parts_of c.args.the_loop.now.parts) x) (ap (λ p. lap_entries M o (parts_of p) x) (sym i.is))
    (entered_then value M o a b z bodies tests
    (entered_as value M o a b _ bodies (ap (entries_of M o (code i.body.now)) start) c.in_ok-left-in-TestLast.ensures.entered)
    (entered_as value M o b z _ tests (ap (λ v. record { place = i.test_place; statement = If i.test_place (term i.test.now) Done Done Done; leaf = v } ∷ []) on) c.in_ok-note_test-in-TestLast.ensures))

pub enter_stmt-returns-in-While-clause-value : goal.enter_stmt-returns-in-While-clause-value
enter_stmt-returns-in-While-clause-value g t c =
    let value = g.L.Leaf.value in
    let w = c.in-While in
    let same = after-While g.L.Leaf.meaning c.args.task.now.options.now c.args.s.now w.place w.test w.step w.body c.deref-in-While.result.now c.deref-in-While-2.result.now (ways_of value c.args.ways) w.is c.deref-in-While.ensures.value c.deref-in-While-2.ensures.value in
    subst (λ u. IfOk c.enter_loop.result (λ made. ways_of value made ≡ u)) same c.enter_loop.ensures.value

pub enter_stmt-returns-in-While-clause-entered : goal.enter_stmt-returns-in-While-clause-entered
enter_stmt-returns-in-While-clause-entered g t c =
    let value = g.L.Leaf.value in
    let M = g.L.Leaf.meaning in
    let o = c.args.task.now.options.now in
    let s = c.args.s.now in
    let u = ways_of value c.args.ways in
    let w = c.in-While in
    let a = c.args.noted.now in
    let z = c.enter_loop.new.noted in
    let l = TestFirst (term w.test) (code c.deref-in-While.result.now) (code c.deref-in-While-2.result.now) in
    on_ok_by c.enter_loop.result (HasEntered value M o a z (loop_entries M o s w.place l u.behind)) (HasEntered value M o a z (entries_of M o (front s Done) u))
    (entered_as value M o a z _ (entries_of M o (front s Done) u)
    (entries-While M o s w.place w.test w.step w.body c.deref-in-While.result.now c.deref-in-While-2.result.now u w.is c.deref-in-While.ensures.value c.deref-in-While-2.ensures.value))
    c.enter_loop.ensures.entered

pub enter_stmt-returns-in-Do-clause-value : goal.enter_stmt-returns-in-Do-clause-value
enter_stmt-returns-in-Do-clause-value g t c =
    let value = g.L.Leaf.value in
    let w = c.in-Do in
    let same = after-Do g.L.Leaf.meaning c.args.task.now.options.now c.args.s.now w.place w.body w.test_place w.test c.deref-in-Do.result.now (ways_of value c.args.ways) w.is c.deref-in-Do.ensures.value in
    subst (λ u. IfOk c.enter_loop-in-Do.result (λ made. ways_of value made ≡ u)) same c.enter_loop-in-Do.ensures.value

pub enter_stmt-returns-in-Do-clause-entered : goal.enter_stmt-returns-in-Do-clause-entered
enter_stmt-returns-in-Do-clause-entered g t c =
    let value = g.L.Leaf.value in
    let M = g.L.Leaf.meaning in
    let o = c.args.task.now.options.now in
    let s = c.args.s.now in
    let u = ways_of value c.args.ways in
    let w = c.in-Do in
    let a = c.args.noted.now in
    let z = c.enter_loop-in-Do.new.noted in
    let l = TestLast (code c.deref-in-Do.result.now) w.test_place (term w.test) in
    on_ok_by c.enter_loop-in-Do.result (HasEntered value M o a z (loop_entries M o s w.place l u.behind)) (HasEntered value M o a z (entries_of M o (front s Done) u))
    (entered_as value M o a z _ (entries_of M o (front s Done) u)
    (entries-Do M o s w.place w.body w.test_place w.test c.deref-in-Do.result.now u w.is c.deref-in-Do.ensures.value))
    c.enter_loop-in-Do.ensures.entered

pub enter_stmt-returns-in_ok-note-in-Block-clause-entered : goal.enter_stmt-returns-in_ok-note-in-Block-clause-entered
enter_stmt-returns-in_ok-note-in-Block-clause-entered g t c =
    let value = g.L.Leaf.value in
    let M = g.L.Leaf.meaning in
    let o = c.args.task.now.options.now in
    let s = c.args.s.now in
    let u = ways_of value c.args.ways in
    let w = c.in-Block in
    let a = c.args.noted.now in
    let b = c.note-in-Block.new.noted in
    let z = c.enter_list.new.noted in
    let bodies = entries_of M o (code c.deref-in-Block.result.now) u in
    on_ok_by c.enter_list.result (HasEntered value M o b z bodies) (HasEntered value M o a z (entries_of M o (front s Done) u))
    (λ h. entered_as value M o a z _ (entries_of M o (front s Done) u) (entries-Block M o s w.place w.body c.deref-in-Block.result.now u w.is c.deref-in-Block.ensures.value)
    (entered_then value M o a b z _ bodies c.in_ok-note-in-Block.ensures h)) c.enter_list.ensures.entered
