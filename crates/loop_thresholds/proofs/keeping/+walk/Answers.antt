use Rattle.std.proofs.Common.{◌≡◌, ap, sym, ◌∙◌, subst, OnOk}
use Rattle.c_tree.specs.Tree.{Done}
use Rattle.c_tree.specs.View.{front}
use Rattle.loop_thresholds.specs.Numbers.{numbers_of}
use Rattle.loop_thresholds.specs.Keeping.{keep_near}
use Rattle.loop_thresholds.proofs.Kept.{keep_near-more, kept_input, kept_skip, kept_if, kept_while, kept_do, kept_leave, kept_cond}
use Rattle.loop_thresholds.proofs.keeping.+walk.Goals as goal

pub keep_list-loop-s-preserved : goal.keep_list-loop-s-preserved
keep_list-loop-s-preserved t c =
    c.in_ok-keep_stmt.ensures ∙ ap (λ l. keep_near l (numbers_of (front c.s-item.result Done))) c.loop-s.invariant
    ∙ sym (keep_near-more c.args.kept.now.items c.args.list.now c.loop-s.s-index c.s-item.result c.loop-s-test.true c.s-item.is)

pub keep_stmt-returns-in-Input : goal.keep_stmt-returns-in-Input
keep_stmt-returns-in-Input t c = kept_input c.args.kept.now.items c.args.s.now c.in-Input.place c.in-Input.target c.in-Input.is

pub keep_stmt-returns-in-Skip : goal.keep_stmt-returns-in-Skip
keep_stmt-returns-in-Skip t c = kept_skip c.args.kept.now.items c.args.s.now c.in-Skip.place c.in-Skip.is

pub keep_stmt-returns-in_ok-keep_list-in-If : goal.keep_stmt-returns-in_ok-keep_list-in-If
keep_stmt-returns-in_ok-keep_list-in-If t c =
    let i = c.in-If in
    let first = c.keep_term-in-If.new.kept.items in
    let second = c.keep_list.new.kept.items in
    let yes = c.deref in
    let others = c.deref-in-If in
    let all = kept_if c.args.kept.now.items first second c.args.s.now i.place i.test i.yes i.no yes.result.now others.result.now i.is c.in_ok-keep_term-in-If.ensures yes.ensures.value c.in_ok-keep_list-in-If.ensures others.ensures.value in
    subst (λ l. OnOk c.keep_list-in-If.result (c.keep_list-in-If.new.kept.items ≡ l)) all c.keep_list-in-If.ensures

pub keep_stmt-returns-in_ok-keep_list-in-While : goal.keep_stmt-returns-in_ok-keep_list-in-While
keep_stmt-returns-in_ok-keep_list-in-While t c =
    let i = c.in-While in
    let first = c.keep_term-in-While.new.kept.items in
    let second = c.keep_list-in-While.new.kept.items in
    let step = c.deref-in-While in
    let body = c.deref-in-While-2 in
    let all = kept_while c.args.kept.now.items first second c.args.s.now i.place i.test i.step i.body step.result.now body.result.now i.is c.in_ok-keep_term-in-While.ensures step.ensures.value c.in_ok-keep_list-in-While.ensures body.ensures.value in
    subst (λ l. OnOk c.keep_list-in-While-2.result (c.keep_list-in-While-2.new.kept.items ≡ l)) all c.keep_list-in-While-2.ensures

pub keep_stmt-returns-in_ok-keep_list-in-Cond : goal.keep_stmt-returns-in_ok-keep_list-in-Cond
keep_stmt-returns-in_ok-keep_list-in-Cond t c =
    let i = c.in-Cond in
    let yes = c.deref-in-Cond in
    let others = c.deref-in-Cond-2 in
    let all = kept_cond c.args.kept.now.items c.keep_list-in-Cond.new.kept.items c.args.s.now i.number i.yes i.no yes.result.now others.result.now i.is yes.ensures.value c.in_ok-keep_list-in-Cond.ensures others.ensures.value in
    subst (λ l. OnOk c.keep_list-in-Cond-2.result (c.keep_list-in-Cond-2.new.kept.items ≡ l)) all c.keep_list-in-Cond-2.ensures

pub keep_stmt-returns-in_ok-keep_list-in-Do : goal.keep_stmt-returns-in_ok-keep_list-in-Do
keep_stmt-returns-in_ok-keep_list-in-Do t c =
    let i = c.in-Do in
    let body = c.deref-in-Do in
    let all = kept_do c.args.kept.now.items c.keep_list-in-Do.new.kept.items c.args.s.now i.place i.body i.test_place i.test body.result.now i.is body.ensures.value c.in_ok-keep_list-in-Do.ensures in
    subst (λ l. OnOk c.keep_term-in-Do.result (c.keep_term-in-Do.new.kept.items ≡ l)) all c.keep_term-in-Do.ensures

pub keep_stmt-returns-in-Leave : goal.keep_stmt-returns-in-Leave
keep_stmt-returns-in-Leave t c =
    subst (λ l. OnOk c.keep_jump.result (c.keep_jump.new.kept.items ≡ l)) (kept_leave c.args.kept.now.items c.args.s.now c.in-Leave.place c.in-Leave.jump c.in-Leave.is) c.keep_jump.ensures
