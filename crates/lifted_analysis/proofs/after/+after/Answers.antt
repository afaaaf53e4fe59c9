use Rattle.std.proofs.Common.{rules, arith, ◌≡◌, ◌≤◌, ℕ, ◌-◌, ◌+◌, ◌∙◌, ap, sym, subst, refl, true, take, nat_lt, List, Bool}
use Rattle.c_tree.specs.Tree.{Done}
use Rattle.c_tree.specs.View.{term, front, code, whole}
use Rattle.c_tree.specs.Fit.{IsCodeOf}
use Rattle.c_tree.specs.Project.{projected}
use Rattle.decision_tree.specs.Numbered.{erase}
use Rattle.decision_tree.specs.Plain.{leaf_of}
use Rattle.decision_tree.specs.View.{numbered, plain}
use Rattle.decision_tree.proofs.Numbers.{keeps_same, keeps_both, numbers_tell}
use Rattle.leaf_domain.specs.Leaves.{LeafValue}
use Rattle.leaf_domain.specs.Transfer.{assumed}
use Rattle.plain_analysis.specs.Loops.{round_by, rounds_of, round_count, narrowings_of}
use Rattle.plain_analysis.specs.Stated.{ArePartsOf, HasLoopsIn, HasLoopsOf}
use Rattle.plain_analysis.specs.Statements.{LoopParts, TestFirst, TestLast, body_of, passed, lap, failing, through_body, final_heads}
use Rattle.plain_analysis.specs.View.{parts_of}
use Rattle.plain_analysis.specs.Ways.{Ways, onto, enter, going_on, behind_loop}
use Rattle.plain_analysis.proofs.Listed.{IsCodeOf-at}
use Rattle.plain_analysis.proofs.Rounds.{rounds_stay, narrowings_stay, narrowings_move}
use Rattle.plain_analysis.proofs.Sizes.{size_of, size_in, size-at}
use Rattle.plain_analysis.proofs.StatedLemmas.{loops-at}
use Rattle.lifted_analysis.specs.declared.finals.Entered.{Entered}
use Rattle.lifted_analysis.specs.Heads.{turns_over}
use Rattle.lifted_analysis.specs.Rules.{ended_heads, body_with, behind_with, head_with, AreCountedWith}
use Rattle.lifted_analysis.specs.States.{truths_in, ways_at}
use Rattle.lifted_analysis.specs.Steps.{kept_by, parts_at, failing_so, after_at, both_at, if_at, group_at, lap_at, final_at}
use Rattle.lifted_analysis.proofs.AfterLemmas.{shared_made}
use Rattle.lifted_analysis.proofs.FinalsLemmas.{memory_stays, memory_same, memory_lifted, memory_made, recalled_made, remembered}
use Rattle.lifted_analysis.proofs.IdleLemmas.{final_idle, group_joins}
use Rattle.lifted_analysis.proofs.LoopLemmas.{rounds_go, body_small, body_fits, body_loops, failing_is, entered_is}
use Rattle.lifted_analysis.proofs.StateLemmas.{state_sized, state_stays, counted}
use Rattle.lifted_analysis.proofs.WalkLemmas.{passed_with-more, passed_with-If, passed_with-While, passed_with-Do, passed_with-Leave, passed_with-Block, passed_with-Skip, passed_with-Cond}
use Rattle.lifted_analysis.proofs.WaysLemmas.{states_stay, unchanged, if_made_as, if_lifted_is, if_is_lifted, if_counted_as, nothing_changes, nothing_ends, then_passed, both_made, both_counted}
use Rattle.lifted_analysis.proofs.after.+after.Goals as goal

-- ---- lists

pub after_list-returns-then-is_nothing_everywhere-clause-made : goal.after_list-returns-then-is_nothing_everywhere-clause-made
after_list-returns-then-is_nothing_everywhere-clause-made g t c =
    let family = c.args.family.now in
    nothing_changes g.L.Leaf.value family g.L.Leaf.meaning g.met.L.Leaf.laws (c.transfer_is_sound.ensures.answers family.options.now.mode) c.requires.family c.args.tables.now.leaves c.args.ways (code c.args.list.now) c.requires.states
    (c.is_nothing_everywhere.ensures c.if-is_nothing_everywhere.true)

pub after_list-loop-s-init : goal.after_list-loop-s-init
after_list-loop-s-init g t c =
    record { made = unchanged g.L.Leaf.value c.args.family.now c.args.tables.now.leaves c.args.ways (λ v. ways_at g.L.Leaf.value c.args.ways v) c.requires.states (λ v. refl); memory = c.requires.memory }

pub after_list-after_stmt-requires : goal.after_list-after_stmt-requires
after_list-after_stmt-requires g t c κs within =
    let s = c.s-item.result in
    let fit : IsCodeOf c.args.family.now.variables (front s Done) = IsCodeOf-at c.args.family.now.variables c.args.list.now c.loop-s.s-index s c.loop-s-test.true c.s-item.is c.requires.part.0 in
    let states = c.loop-s.invariant.made.states in
    let p = whole c.args.family.now.program.now in
    let loops : HasLoopsOf p (front s Done) = loops-at p c.args.list.now c.loop-s.s-index s c.loop-s-test.true c.s-item.is c.requires.part.1 in
    let memory = c.loop-s.invariant.memory in
    (omega (arith, size-at c.args.list.now c.loop-s.s-index s c.loop-s-test.true c.s-item.is), search rules)

pub after_list-loop-s-preserved : goal.after_list-loop-s-preserved
after_list-loop-s-preserved g t c =
    let value = g.L.Leaf.value in
    let M = g.L.Leaf.meaning in
    let family = c.args.family.now in
    let E = ended_heads M family in
    let w = c.args.ways in
    let list = c.args.list.now in
    let i = c.loop-s.s-index in
    let s = c.s-item.result in
    let new = c.in_ok-made.ensures in
    record {
      made = then_passed value family c.args.tables.now.leaves c.loop-s.tables.leaves c.after_stmt.new.tables.leaves w c.loop-s.made c.in_ok-made.made
          (after_at M family (code (take i list))) (after_at M family (front s Done)) (after_at M family (code (take (i + 1) list))) c.loop-s.invariant.made new.made
          (λ v. sym (passed_with-more M family E list i s v (ways_at value w v) c.loop-s-test.true c.s-item.is));
      memory = new.memory;
    }

-- ---- statements

pub after_stmt-returns-then-is_nothing_everywhere-clause-made : goal.after_stmt-returns-then-is_nothing_everywhere-clause-made
after_stmt-returns-then-is_nothing_everywhere-clause-made g t c =
    let family = c.args.family.now in
    nothing_changes g.L.Leaf.value family g.L.Leaf.meaning g.met.L.Leaf.laws (c.transfer_is_sound.ensures.answers family.options.now.mode) c.requires.family c.args.tables.now.leaves c.args.ways (front c.args.s.now Done) c.requires.states
    (c.is_nothing_everywhere.ensures c.if-is_nothing_everywhere.true)

pub after_stmt-returns-in-If-clause-made : goal.after_stmt-returns-in-If-clause-made
after_stmt-returns-in-If-clause-made g t c =
    let value = g.L.Leaf.value in
    let M = g.L.Leaf.meaning in
    let family = c.args.family.now in
    let E = ended_heads M family in
    let w = c.args.ways in
    let i = c.in-If in
    let a = c.args.tables.now.leaves in
    if_made_as value family c.after_if.result a a c.after_if.new.tables.leaves _ (λ v. after_at M family (front c.args.s.now Done) v (ways_at value w v)) (keeps_same a a refl)
    (λ v.
    ap (λ l. if_at M family (term i.test) (code l) (code c.deref-in-If.result.now) v (ways_at value w v)) c.deref.ensures.value
    ∙ (ap (λ l. if_at M family (term i.test) (code i.yes.items) (code l) v (ways_at value w v)) c.deref-in-If.ensures.value
    ∙ passed_with-If M family E c.args.s.now i.place i.test i.yes i.no v (ways_at value w v) i.is))
    c.after_if.ensures.made

pub after_stmt-returns-in-While-clause-made : goal.after_stmt-returns-in-While-clause-made
after_stmt-returns-in-While-clause-made g t c =
    let value = g.L.Leaf.value in
    let M = g.L.Leaf.meaning in
    let family = c.args.family.now in
    let E = ended_heads M family in
    let w = c.args.ways in
    let i = c.in-While in
    let a = c.args.tables.now.leaves in
    let by : LoopParts → List Bool → Ways = λ l v. behind_with M family E l v (ways_at value w v) (head_with M family E i.place l v (ways_at value w v).behind) in
    if_made_as value family c.after_loop.result a a c.after_loop.new.tables.leaves (λ v. by (TestFirst (term i.test) (code c.deref-in-While.result.now) (code c.deref-in-While-2.result.now)) v)
    (λ v. after_at M family (front c.args.s.now Done) v (ways_at value w v)) (keeps_same a a refl)
    (λ v.
    ap (λ l. by (TestFirst (term i.test) (code l) (code c.deref-in-While-2.result.now)) v) c.deref-in-While.ensures.value
    ∙ (ap (λ l. by (TestFirst (term i.test) (code i.step.items) (code l)) v) c.deref-in-While-2.ensures.value
    ∙ passed_with-While M family E c.args.s.now i.place i.test i.step i.body v (ways_at value w v) i.is))
    c.after_loop.ensures.made

pub after_stmt-returns-in-Do-clause-made : goal.after_stmt-returns-in-Do-clause-made
after_stmt-returns-in-Do-clause-made g t c =
    let value = g.L.Leaf.value in
    let M = g.L.Leaf.meaning in
    let family = c.args.family.now in
    let E = ended_heads M family in
    let w = c.args.ways in
    let i = c.in-Do in
    let a = c.args.tables.now.leaves in
    let by : LoopParts → List Bool → Ways = λ l v. behind_with M family E l v (ways_at value w v) (head_with M family E i.place l v (ways_at value w v).behind) in
    if_made_as value family c.after_loop-in-Do.result a a c.after_loop-in-Do.new.tables.leaves (λ v. by (TestLast (code c.deref-in-Do.result.now) i.test_place (term i.test)) v)
    (λ v. after_at M family (front c.args.s.now Done) v (ways_at value w v)) (keeps_same a a refl)
    (λ v.
    ap (λ l. by (TestLast (code l) i.test_place (term i.test)) v) c.deref-in-Do.ensures.value
    ∙ passed_with-Do M family E c.args.s.now i.place i.body i.test_place i.test v (ways_at value w v) i.is)
    c.after_loop-in-Do.ensures.made

pub after_stmt-returns-in-Leave-clause-made : goal.after_stmt-returns-in-Leave-clause-made
after_stmt-returns-in-Leave-clause-made g t c =
    let value = g.L.Leaf.value in
    let M = g.L.Leaf.meaning in
    let family = c.args.family.now in
    let E = ended_heads M family in
    let w = c.args.ways in
    let i = c.in-Leave in
    let a = c.args.tables.now.leaves in
    if_made_as value family c.leave.result a a c.leave.new.tables.leaves _ (λ v. after_at M family (front c.args.s.now Done) v (ways_at value w v)) (keeps_same a a refl)
    (λ v. passed_with-Leave M family E c.args.s.now i.place i.jump v (ways_at value w v) i.is) c.leave.ensures

pub after_stmt-returns-in-Block-clause-made : goal.after_stmt-returns-in-Block-clause-made
after_stmt-returns-in-Block-clause-made g t c =
    let value = g.L.Leaf.value in
    let M = g.L.Leaf.meaning in
    let family = c.args.family.now in
    let E = ended_heads M family in
    let w = c.args.ways in
    let i = c.in-Block in
    let a = c.args.tables.now.leaves in
    if_made_as value family c.after_list.result a a c.after_list.new.tables.leaves _ (λ v. after_at M family (front c.args.s.now Done) v (ways_at value w v)) (keeps_same a a refl)
    (λ v. ap (λ l. after_at M family (code l) v (ways_at value w v)) c.deref-in-Block.ensures.value ∙ passed_with-Block M family E c.args.s.now i.place i.body v (ways_at value w v) i.is) c.after_list.ensures.made

pub after_stmt-returns-in-Skip-clause-made : goal.after_stmt-returns-in-Skip-clause-made
after_stmt-returns-in-Skip-clause-made g t c =
    let value = g.L.Leaf.value in
    let M = g.L.Leaf.meaning in
    let family = c.args.family.now in
    let E = ended_heads M family in
    let w = c.args.ways in
    unchanged value family c.args.tables.now.leaves w (λ v. after_at M family (front c.args.s.now Done) v (ways_at value w v)) c.requires.states
    (λ v. passed_with-Skip M family E c.args.s.now c.in-Skip.place v (ways_at value w v) c.in-Skip.is)

pub after_stmt-returns-in-Cond-clause-made : goal.after_stmt-returns-in-Cond-clause-made
after_stmt-returns-in-Cond-clause-made g t c =
    let value = g.L.Leaf.value in
    let M = g.L.Leaf.meaning in
    let family = c.args.family.now in
    let E = ended_heads M family in
    let w = c.args.ways in
    let i = c.in-Cond in
    let a = c.args.tables.now.leaves in
    let choice = plain c.choice-choice.result.now in
    if_made_as value family c.after_group.result a a c.after_group.new.tables.leaves _ (λ v. after_at M family (front c.args.s.now Done) v (ways_at value w v)) (keeps_same a a refl)
    (λ v.
    ap (λ l. group_at M family choice (code l) (code c.deref-in-Cond-2.result.now) v (ways_at value w v)) c.deref-in-Cond.ensures.value
    ∙ (ap (λ l. group_at M family choice (code i.yes.items) (code l) v (ways_at value w v)) c.deref-in-Cond-2.ensures.value
    ∙ passed_with-Cond M family E c.args.s.now i.number i.yes i.no (leaf_of choice v) v (ways_at value w v) i.is (sym (c.choice-choice.ensures.at_each v))))
    c.after_group.ensures.made

pub after_stmt-returns-in-Assign-clause-memory : goal.after_stmt-returns-in-Assign-clause-memory
after_stmt-returns-in-Assign-clause-memory g t c =
    memory_made g.L.Leaf.value g.L.Leaf.meaning c.args.family.now c.after_step.result c.args.tables.now.leaves c.after_step.new.tables.leaves c.args.finals.now _ c.after_step.ensures c.requires.memory

pub after_stmt-returns-in-Input-clause-memory : goal.after_stmt-returns-in-Input-clause-memory
after_stmt-returns-in-Input-clause-memory g t c =
    memory_made g.L.Leaf.value g.L.Leaf.meaning c.args.family.now c.after_step-in-Input.result c.args.tables.now.leaves c.after_step-in-Input.new.tables.leaves c.args.finals.now _ c.after_step-in-Input.ensures c.requires.memory

pub after_stmt-returns-in-Assert-clause-memory : goal.after_stmt-returns-in-Assert-clause-memory
after_stmt-returns-in-Assert-clause-memory g t c =
    memory_made g.L.Leaf.value g.L.Leaf.meaning c.args.family.now c.after_step-in-Assert.result c.args.tables.now.leaves c.after_step-in-Assert.new.tables.leaves c.args.finals.now _ c.after_step-in-Assert.ensures c.requires.memory

pub after_stmt-returns-in-Leave-clause-memory : goal.after_stmt-returns-in-Leave-clause-memory
after_stmt-returns-in-Leave-clause-memory g t c =
    memory_made g.L.Leaf.value g.L.Leaf.meaning c.args.family.now c.leave.result c.args.tables.now.leaves c.leave.new.tables.leaves c.args.finals.now _ c.leave.ensures c.requires.memory

-- ---- two lists

pub after_both-after_list-requires-2 : goal.after_both-after_list-requires-2
after_both-after_list-requires-2 g t c κs within =
    let value = g.L.Leaf.value in
    let family = c.args.family.now in
    let first = c.in_ok-first.ensures in
    let states = first.made.states in
    let second = state_stays value family c.args.tables.now.leaves c.after_list.new.tables.leaves (numbered c.args.second) first.made.keeps c.requires.second in
    let memory = first.memory in
    (omega arith, search rules)

pub after_both-returns-clause-made : goal.after_both-returns-clause-made
after_both-returns-clause-made g t c =
    let value = g.L.Leaf.value in
    let M = g.L.Leaf.meaning in
    let family = c.args.family.now in
    let E = ended_heads M family in
    let w = c.args.ways in
    both_made value family M c.args.tables.now.leaves c.after_list.new.tables.leaves c.after_list-2.new.tables.leaves c.joined.new.tables.leaves w c.in_ok-first.first c.in_ok-made.made c.args.second c.in_ok-behind.behind
    (after_at M family (code c.args.yes.now)) (after_at M family (code c.args.no.now)) c.in_ok-first.ensures.made c.in_ok-made.ensures.made c.in_ok-behind.ensures

pub after_both-returns-clause-counted : goal.after_both-returns-clause-counted
after_both-returns-clause-counted g t c =
    let value = g.L.Leaf.value in
    let M = g.L.Leaf.meaning in
    let family = c.args.family.now in
    let E = ended_heads M family in
    let w = c.args.ways in
    λ v.
    both_counted value family c.args.tables.now.leaves c.after_list.new.tables.leaves c.after_list-2.new.tables.leaves w c.in_ok-first.first c.in_ok-made.made c.args.second
    (after_at M family (code c.args.yes.now)) (after_at M family (code c.args.no.now)) v c.in_ok-first.ensures.made c.in_ok-made.ensures.made

pub after_both-returns-clause-memory : goal.after_both-returns-clause-memory
after_both-returns-clause-memory g t c =
    memory_stays g.L.Leaf.value g.L.Leaf.meaning c.args.family.now c.after_list-2.new.tables.leaves c.joined.new.tables.leaves c.after_list-2.new.finals c.in_ok-behind.ensures.keeps c.in_ok-made.ensures.memory

pub after_if-after_step-requires-clause-states : goal.after_if-after_step-requires-clause-states
after_if-after_step-requires-clause-states g t c =
    states_stay g.L.Leaf.value c.args.family.now c.args.tables.now.leaves c.stepped.new.tables.leaves c.args.ways c.in_ok-in_no.ensures.keeps c.requires.states

pub after_if-after_both-requires : goal.after_if-after_both-requires
after_if-after_both-requires g t c κs within =
    let value = g.L.Leaf.value in
    let M = g.L.Leaf.meaning in
    let family = c.args.family.now in
    let a = c.args.tables.now.leaves in
    let b = c.stepped.new.tables.leaves in
    let d = c.after_step.new.tables.leaves in
    let f = c.args.finals.now in
    let states = c.in_ok-in_yes.ensures.states in
    let second = state_stays value family b d (numbered c.in_ok-in_no.in_no) c.in_ok-in_yes.ensures.keeps c.in_ok-in_no.ensures.state in
    let memory = memory_stays value M family b d f c.in_ok-in_yes.ensures.keeps (memory_stays value M family a b f c.in_ok-in_no.ensures.keeps c.requires.memory) in
    (omega arith, search rules)

pub after_if-returns-clause-made : goal.after_if-returns-clause-made
after_if-returns-clause-made g t c =
    let value = g.L.Leaf.value in
    let M = g.L.Leaf.meaning in
    let family = c.args.family.now in
    let E = ended_heads M family in
    let w = c.args.ways in
    let p = code c.args.yes.now in
    let q = code c.args.no.now in
    let a = c.args.tables.now.leaves in
    let b = c.stepped.new.tables.leaves in
    let d = c.after_step.new.tables.leaves in
    if_made_as value family c.after_both.result a d c.after_both.new.tables.leaves
    (λ v. both_at M family p q v (ways_at value c.in_ok-in_yes.in_yes v) (value (leaf_of (plain c.in_ok-in_no.in_no) v))) (λ v. if_at M family (term c.args.test.now) p q v (ways_at value w v))
    (keeps_both a b d c.in_ok-in_no.ensures.keeps c.in_ok-in_yes.ensures.keeps)
    (λ v.
    ap (λ u. both_at M family p q v u (value (leaf_of (plain c.in_ok-in_no.in_no) v))) (c.in_ok-in_yes.ensures.at_each v)
    ∙ ap (λ (x : LeafValue). both_at M family p q v (onto (ways_at value w v) (assumed M family.options.now.mode (term c.args.test.now) true (ways_at value w v).behind)) x) (c.in_ok-in_no.ensures.at_each v))
    c.after_both.ensures.made

pub after_group-keep_behind-requires-clause-states : goal.after_group-keep_behind-requires-clause-states
after_group-keep_behind-requires-clause-states g t c =
    states_stay g.L.Leaf.value c.args.family.now c.args.tables.now.leaves c.kept.new.tables.leaves c.args.ways c.in_ok-in_no.ensures.keeps c.requires.states

pub after_group-after_both-requires : goal.after_group-after_both-requires
after_group-after_both-requires g t c κs within =
    let value = g.L.Leaf.value in
    let M = g.L.Leaf.meaning in
    let family = c.args.family.now in
    let a = c.args.tables.now.leaves in
    let b = c.kept.new.tables.leaves in
    let d = c.keep_behind.new.tables.leaves in
    let f = c.args.finals.now in
    let states = c.in_ok-in_yes.ensures.states in
    let second = state_stays value family b d (numbered c.in_ok-in_no.in_no) c.in_ok-in_yes.ensures.keeps c.in_ok-in_no.ensures.state in
    let memory = memory_stays value M family b d f c.in_ok-in_yes.ensures.keeps (memory_stays value M family a b f c.in_ok-in_no.ensures.keeps c.requires.memory) in
    (omega arith, search rules)

pub after_group-returns-clause-made : goal.after_group-returns-clause-made
after_group-returns-clause-made g t c =
    let value = g.L.Leaf.value in
    let M = g.L.Leaf.meaning in
    let family = c.args.family.now in
    let E = ended_heads M family in
    let w = c.args.ways in
    let o = family.options.now in
    let p = code c.args.yes.now in
    let q = code c.args.no.now in
    let choice = plain c.args.choice.now in
    let a = c.args.tables.now.leaves in
    let b = c.kept.new.tables.leaves in
    let d = c.keep_behind.new.tables.leaves in
    let yes = c.in_ok-in_yes.ensures in
    let no = c.in_ok-in_no.ensures in
    let A = c.transfer_is_sound.ensures.answers o.mode in
    let few = c.requires.family.few in
    if_counted_as value family c.after_both.result a d c.after_both.new.tables.leaves
    (λ v. AreCountedWith M family E E p q v (ways_at value c.in_ok-in_yes.in_yes v) (value (leaf_of (plain c.in_ok-in_no.in_no) v)))
    (λ v. both_at M family p q v (ways_at value c.in_ok-in_yes.in_yes v) (value (leaf_of (plain c.in_ok-in_no.in_no) v))) (λ v. group_at M family choice p q v (ways_at value w v))
    (keeps_both a b d no.keeps yes.keeps)
    (λ v over.
    let ts = truths_in family.choices.now v in
    let u = ways_at value w v in
    let t = leaf_of choice v in
    let so = subst (λ (y : LeafValue). AreCountedWith M family E E p q v (onto u (kept_by true t u.behind)) y) (no.at_each v) (subst (λ y. AreCountedWith M family E E p q v y (value (leaf_of (plain c.in_ok-in_no.in_no) v))) (yes.at_each v) over) in
    ap (λ y. both_at M family p q v y (value (leaf_of (plain c.in_ok-in_no.in_no) v))) (yes.at_each v)
    ∙ (ap (λ (y : LeafValue). both_at M family p q v (onto u (kept_by true t u.behind)) y) (no.at_each v)
    ∙ group_joins M g.met.L.Leaf.laws o.mode A family.variables few (final_heads M o) (final_idle M g.met.L.Leaf.laws o A family.variables few) t (projected ts p) (projected ts q) u
    (counted value family a (numbered w.behind) v c.requires.states.behind) so.0 so.1))
    c.after_both.ensures.counted c.after_both.ensures.made

-- ---- loops

pub through_body-after_list-requires : goal.through_body-after_list-requires
through_body-after_list-requires g t c κs within =
    let value = g.L.Leaf.value in
    let M = g.L.Leaf.meaning in
    let family = c.args.family.now in
    let a = c.args.tables.now.leaves in
    let b = c.inside.new.tables.leaves in
    let d = c.enter.new.tables.leaves in
    let f = c.args.finals.now in
    let l = parts_of c.args.the_loop.now.parts in
    let n = family.variables in
    let p = whole family.program.now in
    let same = c.body.ensures in
    let part = subst (λ x. IsCodeOf n x) (sym same) (body_fits n l c.requires.own.parts) in
    let loops = subst (λ x. HasLoopsOf p x) (sym same) (body_loops p l c.requires.own.loops) in
    let small = subst (λ x. size_of x ≤ size_in l) (sym same) (body_small l) in
    let states = c.in_ok-start.ensures.states in
    let memory = memory_stays value M family b d f c.in_ok-start.ensures.keeps (memory_stays value M family a b f c.in_ok-entered.ensures.keeps c.requires.memory) in
    (omega (arith, small), search rules)

pub through_body-returns-clause-made : goal.through_body-returns-clause-made
through_body-returns-clause-made g t c =
    let value = g.L.Leaf.value in
    let M = g.L.Leaf.meaning in
    let family = c.args.family.now in
    let E = ended_heads M family in
    let mode = family.options.now.mode in
    let l = parts_of c.args.the_loop.now.parts in
    let at = plain c.args.at.now in
    let a = c.args.tables.now.leaves in
    let b = c.inside.new.tables.leaves in
    let d = c.enter.new.tables.leaves in
    if_made_as value family c.after_list.result a d c.after_list.new.tables.leaves (λ v. after_at M family (code c.body.result.now) v (ways_at value c.in_ok-start.start v)) (λ v. body_with M family E l v (value (leaf_of at v)))
    (keeps_both a b d c.in_ok-entered.ensures.keeps c.in_ok-start.ensures.keeps)
    (λ v.
    let x = value (leaf_of at v) in
    ap (λ k. after_at M family k v (ways_at value c.in_ok-start.start v)) c.body.ensures
    ∙ (ap (after_at M family (body_of l) v) (c.in_ok-start.ensures.at_each v ∙ ap enter (c.in_ok-entered.ensures.at_each v))
    ∙ entered_is M mode (final_heads M family.options.now) (truths_in family.choices.now v) l x))
    c.after_list.ensures.made

pub lap-enter-requires-clause-state : goal.lap-enter-requires-clause-state
lap-enter-requires-clause-state g t c = c.in_ok-on.ensures.state

pub lap-after_list-requires : goal.lap-after_list-requires
lap-after_list-requires g t c κs within =
    let value = g.L.Leaf.value in
    let M = g.L.Leaf.meaning in
    let family = c.args.family.now in
    let b = c.through_body.new.tables.leaves in
    let d = c.going_on.new.tables.leaves in
    let e = c.enter.new.tables.leaves in
    let f = c.through_body.new.finals in
    let own = subst (λ p. ArePartsOf family.variables (parts_of p)) c.in-TestFirst.is c.requires.own.parts in
    let loops = subst (λ p. HasLoopsIn (whole family.program.now) (parts_of p)) c.in-TestFirst.is c.requires.own.loops in
    let small = ap (λ p. size_in (parts_of p)) c.in-TestFirst.is in
    let states = c.in_ok-start-in-TestFirst.ensures.states in
    let memory = memory_stays value M family d e f c.in_ok-start-in-TestFirst.ensures.keeps (memory_stays value M family b d f c.in_ok-on.ensures.keeps c.in_ok-left.ensures.memory) in
    (omega (arith, small), search rules)

pub lap-returns-in-TestFirst-clause-lifted : goal.lap-returns-in-TestFirst-clause-lifted
lap-returns-in-TestFirst-clause-lifted g t c =
    let value = g.L.Leaf.value in
    let M = g.L.Leaf.meaning in
    let family = c.args.family.now in
    let H = final_heads M family.options.now in
    let mode = family.options.now.mode in
    let i = c.in-TestFirst in
    let at = plain c.args.at.now in
    let a = c.args.tables.now.leaves in
    let b = c.through_body.new.tables.leaves in
    let d = c.going_on.new.tables.leaves in
    let e = c.enter.new.tables.leaves in
    let z = c.after_list.new.tables.leaves in
    let left = c.in_ok-left.ensures.made in
    let on = c.in_ok-on.ensures in
    let start = c.in_ok-start-in-TestFirst.ensures in
    let made = c.in_ok-made-in-TestFirst.ensures.made in
    record {
      state = made.states.behind;
      keeps = keeps_both a e z (keeps_both a d e (keeps_both a b d left.keeps on.keeps) start.keeps) made.keeps;
      at_each = λ v.
          let ts = truths_in family.choices.now v in
          let x = value (leaf_of at v) in
          ap (λ (u : Ways). u.behind) (made.at_each v ∙ ap (after_at M family (code i.step.now) v) (start.at_each v ∙ ap enter (on.at_each v ∙ ap (going_on M) (left.at_each v))))
          ∙ ap (λ p. (passed M mode H (projected ts (code i.step.now)) (enter (going_on M (through_body M mode H (parts_at ts (parts_of p)) x)))).behind) i.is
          ∙ ap (λ p. lap M mode H (parts_at ts (parts_of p)) x) (sym i.is);
    }

pub lap-returns-clause-lifted : goal.lap-returns-clause-lifted
lap-returns-clause-lifted g t c =
    let value = g.L.Leaf.value in
    let M = g.L.Leaf.meaning in
    let family = c.args.family.now in
    let H = final_heads M family.options.now in
    let mode = family.options.now.mode in
    let i = c.in-TestLast in
    let at = plain c.args.at.now in
    let a = c.args.tables.now.leaves in
    let b = c.through_body.new.tables.leaves in
    let d = c.going_on.new.tables.leaves in
    let z = c.stepped.new.tables.leaves in
    let left = c.in_ok-left.ensures.made in
    let on = c.in_ok-on.ensures in
    if_is_lifted value family c.stepped.result a z (λ v. lap_at M family (parts_of c.args.the_loop.now.parts) v (value (leaf_of at v))) (lap_at M family (parts_of c.args.the_loop.now.parts)) at (λ v. refl)
    (if_lifted_is value family c.stepped.result a d z (λ v. assumed M mode (term i.test.now) true) (λ v. lap_at M family (parts_of c.args.the_loop.now.parts) v (value (leaf_of at v))) (plain c.in_ok-on.on)
    (keeps_both a b d left.keeps on.keeps)
    (λ v.
    let ts = truths_in family.choices.now v in
    let x = value (leaf_of at v) in
    ap (λ (u : LeafValue). assumed M mode (term i.test.now) true u) (on.at_each v ∙ ap (going_on M) (left.at_each v))
    ∙ ap (λ p. assumed M mode (term i.test.now) true (going_on M (through_body M mode H (parts_at ts (parts_of p)) x))) i.is
    ∙ ap (λ p. lap M mode H (parts_at ts (parts_of p)) x) (sym i.is))
    c.stepped.ensures)

pub lap-returns-clause-memory : goal.lap-returns-clause-memory
lap-returns-clause-memory g t c =
    let value = g.L.Leaf.value in
    let M = g.L.Leaf.meaning in
    let family = c.args.family.now in
    let d = c.going_on.new.tables.leaves in
    let f = c.through_body.new.finals in
    memory_lifted value M family c.stepped.result d c.stepped.new.tables.leaves f _ _ c.stepped.ensures (memory_stays value M family c.through_body.new.tables.leaves d f c.in_ok-on.ensures.keeps c.in_ok-left.ensures.memory)

pub head_at-returns-clause-keeps : goal.head_at-returns-clause-keeps
head_at-returns-clause-keeps g t c =
    keeps_both c.args.tables.now.leaves c.lap.new.tables.leaves c.joined.new.tables.leaves c.in_ok-again.ensures.lifted.keeps c.in_ok-next.ensures.keeps

pub head_at-returns-clause-memory : goal.head_at-returns-clause-memory
head_at-returns-clause-memory g t c =
    memory_stays g.L.Leaf.value g.L.Leaf.meaning c.args.family.now c.lap.new.tables.leaves c.joined.new.tables.leaves c.lap.new.finals c.in_ok-next.ensures.keeps c.in_ok-again.ensures.memory

pub after_loop-through_body-requires : goal.after_loop-through_body-requires
after_loop-through_body-requires g t c κs within =
    let at = c.in_ok-last.ensures.lifted.state in
    let memory = c.in_ok-last.ensures.memory in
    (omega arith, search rules)

pub after_loop-failing-requires-clause-at : goal.after_loop-failing-requires-clause-at
after_loop-failing-requires-clause-at g t c =
    state_stays g.L.Leaf.value c.args.family.now c.final_tree.new.tables.leaves c.through_body.new.tables.leaves (numbered c.in_ok-last.last) c.in_ok-left.ensures.made.keeps c.in_ok-last.ensures.lifted.state

pub after_loop-behind_loop-requires-clause-states : goal.after_loop-behind_loop-requires-clause-states
after_loop-behind_loop-requires-clause-states g t c =
    let value = g.L.Leaf.value in
    let family = c.args.family.now in
    let a = c.args.tables.now.leaves in
    let b = c.final_tree.new.tables.leaves in
    let d = c.through_body.new.tables.leaves in
    let e = c.failing.new.tables.leaves in
    states_stay value family a e c.args.ways (keeps_both a d e (keeps_both a b d c.in_ok-last.ensures.lifted.keeps c.in_ok-left.ensures.made.keeps) c.in_ok-failed.ensures.keeps) c.requires.states

pub after_loop-behind_loop-requires-clause-body : goal.after_loop-behind_loop-requires-clause-body
after_loop-behind_loop-requires-clause-body g t c =
    states_stay g.L.Leaf.value c.args.family.now c.through_body.new.tables.leaves c.failing.new.tables.leaves c.in_ok-left.left c.in_ok-failed.ensures.keeps c.in_ok-left.ensures.made.states

pub after_loop-returns-clause-made : goal.after_loop-returns-clause-made
after_loop-returns-clause-made g t c =
    let value = g.L.Leaf.value in
    let M = g.L.Leaf.meaning in
    let family = c.args.family.now in
    let E = ended_heads M family in
    let w = c.args.ways in
    let H = final_heads M family.options.now in
    let mode = family.options.now.mode in
    let l = parts_of c.args.the_loop.now.parts in
    let a = c.args.tables.now.leaves in
    let b = c.final_tree.new.tables.leaves in
    let d = c.through_body.new.tables.leaves in
    let e = c.failing.new.tables.leaves in
    let last = c.in_ok-last.ensures.lifted in
    let left = c.in_ok-left.ensures.made in
    let failed = c.in_ok-failed.ensures in
    if_made_as value family c.behind_loop.result a e c.behind_loop.new.tables.leaves
    (λ v. behind_loop M (ways_at value w v) (value (leaf_of (plain c.in_ok-failed.failed) v)) (ways_at value c.in_ok-left.left v)) (λ v. behind_with M family E l v (ways_at value w v) (final_at M family l v (ways_at value w v).behind))
    (keeps_both a d e (keeps_both a b d last.keeps left.keeps) failed.keeps)
    (λ v.
    let u = ways_at value w v in
    let ts = truths_in family.choices.now v in
    let x = value (leaf_of (plain c.in_ok-last.last) v) in
    let fails : value (leaf_of (plain c.in_ok-failed.failed) v) ≡ failing M mode H (parts_at ts l) x
    = failed.at_each v ∙ (ap (failing_so M mode l x) (left.at_each v) ∙ failing_is M mode H ts l x) in
    ap (λ (y : LeafValue). behind_loop M u y (ways_at value c.in_ok-left.left v)) fails
    ∙ (ap (behind_loop M u (failing M mode H (parts_at ts l) x)) (left.at_each v)
    ∙ ap (λ (y : LeafValue). behind_with M family E l v u y) (last.at_each v)))
    c.behind_loop.ensures

pub after_loop-returns-clause-memory : goal.after_loop-returns-clause-memory
after_loop-returns-clause-memory g t c =
    let value = g.L.Leaf.value in
    let M = g.L.Leaf.meaning in
    let family = c.args.family.now in
    let d = c.through_body.new.tables.leaves in
    let e = c.failing.new.tables.leaves in
    let f = c.through_body.new.finals in
    memory_made value M family c.behind_loop.result e c.behind_loop.new.tables.leaves f _ c.behind_loop.ensures (memory_stays value M family d e f c.in_ok-failed.ensures.keeps c.in_ok-left.ensures.memory)

pub final_tree-returns-then-is_nothing_everywhere-clause-lifted : goal.final_tree-returns-then-is_nothing_everywhere-clause-lifted
final_tree-returns-then-is_nothing_everywhere-clause-lifted g t c =
    let value = g.L.Leaf.value in
    let M = g.L.Leaf.meaning in
    let family = c.args.family.now in
    let forest = c.args.tables.now.leaves in
    let l = parts_of c.args.the_loop.now.parts in
    shared_made value family c.share.result forest (final_at M family l) (numbered c.args.t.now) c.requires.state
    (nothing_ends value family M g.met.L.Leaf.laws (c.transfer_is_sound.ensures.answers family.options.now.mode) c.requires.family forest (numbered c.args.t.now) l c.requires.state (c.is_nothing_everywhere.ensures c.if-is_nothing_everywhere.true))
    c.share.ensures

pub final_tree-returns-in-Some-clause-lifted : goal.final_tree-returns-in-Some-clause-lifted
final_tree-returns-in-Some-clause-lifted g t c =
    let family = c.args.family.now in
    let key : Entered = record { place = c.args.the_loop.now.place; number = c.number.result } in
    recalled_made g.L.Leaf.value g.L.Leaf.meaning family c.share-in-Some.result c.args.tables.now.leaves c.args.finals.now key c.in-Some.last.now (numbered c.args.t.now) (parts_of c.args.the_loop.now.parts)
    c.requires.memory (search rules) (sym c.number.ensures.number) c.requires.state c.requires.own.here c.share-in-Some.ensures

pub final_tree-returns-clause-memory : goal.final_tree-returns-clause-memory
final_tree-returns-clause-memory g t c =
    let family = c.args.family.now in
    let key : Entered = record { place = c.args.the_loop.now.place; number = c.number.result } in
    let last = c.in_ok-last.ensures in
    remembered g.L.Leaf.value g.L.Leaf.meaning family c.args.tables.now.leaves c.final_by_rounds.new.tables.leaves c.final_by_rounds.new.finals _ key c.in_ok-kept.kept (numbered c.args.t.now) (numbered c.in_ok-last.last)
    (parts_of c.args.the_loop.now.parts) last.memory (sym c.number.ensures.number) c.requires.state c.requires.own.here last.lifted c.in_ok-kept.ensures c.in_ok-remember.ensures

pub final_by_rounds-loop-k-init : goal.final_by_rounds-loop-k-init
final_by_rounds-loop-k-init g t c =
    let value = g.L.Leaf.value in
    let M = g.L.Leaf.meaning in
    let family = c.args.family.now in
    let G = turns_over value M family c.args.the_loop.now (plain c.args.t.now) in
    let n = family.options.now.narrow in
    let zero_less : n - 0 ≡ n = omega arith in
    record {
      rest = λ v. ap (λ m. narrowings_of M family.options.now.thresholds (G v) m (value (leaf_of (plain c.in_ok-head.head.at) v))) zero_less ∙ ap (narrowings_of M family.options.now.thresholds (G v) n) (c.in_ok-head.ensures.at_each v);
      head = c.in_ok-head.ensures.head;
      keeps = c.in_ok-head.ensures.keeps;
      memory = c.in_ok-head.ensures.memory;
    }

pub final_by_rounds-returns-then-number-before-clause-lifted : goal.final_by_rounds-returns-then-number-before-clause-lifted
final_by_rounds-returns-then-number-before-clause-lifted g t c =
    let value = g.L.Leaf.value in
    let M = g.L.Leaf.meaning in
    let family = c.args.family.now in
    let G = turns_over value M family c.args.the_loop.now (plain c.args.t.now) in
    let old = numbered c.loop-k.head.at in
    let new = numbered c.in_ok-head-2.head.at in
    let made = c.in_ok-head-2.ensures in
    let old_state = state_stays value family c.loop-k.tables.leaves c.narrowed.new.tables.leaves old made.keeps c.loop-k.invariant.head.at_state in
    let same : erase new ≡ erase old = (numbers_tell c.narrowed.new.tables.leaves new old made.head.at_state.tree.own old_state.tree.own).0 (sym c.number.ensures.number ∙ (c.if-number-before.true ∙ c.number-before.ensures.number)) in
    record {
      state = made.head.at_state;
      keeps = keeps_both c.args.tables.now.leaves c.loop-k.tables.leaves c.narrowed.new.tables.leaves c.loop-k.invariant.keeps made.keeps;
      at_each = λ v.
          let e : value (leaf_of (erase new) v) ≡ value (leaf_of (erase old) v) = ap (λ u. value (leaf_of u v)) same in
          e ∙ (sym (narrowings_stay M family.options.now.thresholds (G v) (family.options.now.narrow - c.loop-k._k) (value (leaf_of (erase old) v)) (sym (made.at_each v) ∙ e)) ∙ c.loop-k.invariant.rest v);
    }

pub final_by_rounds-loop-k-preserved : goal.final_by_rounds-loop-k-preserved
final_by_rounds-loop-k-preserved g t c =
    let value = g.L.Leaf.value in
    let M = g.L.Leaf.meaning in
    let family = c.args.family.now in
    let G = turns_over value M family c.args.the_loop.now (plain c.args.t.now) in
    let made = c.in_ok-head-2.ensures in
    record {
      rest = λ v. narrowings_move M family.options.now.thresholds (G v) family.options.now.narrow c.loop-k._k (value (leaf_of (plain c.loop-k.head.at) v)) (value (leaf_of (plain c.in_ok-head-2.head.at) v)) _ c.loop-k-test.true (sym (made.at_each v)) (c.loop-k.invariant.rest v);
      head = made.head;
      keeps = keeps_both c.args.tables.now.leaves c.loop-k.tables.leaves c.narrowed.new.tables.leaves c.loop-k.invariant.keeps made.keeps;
      memory = made.memory;
    }

pub final_by_rounds-returns-clause-lifted : goal.final_by_rounds-returns-clause-lifted
final_by_rounds-returns-clause-lifted g t c =
    let value = g.L.Leaf.value in
    let M = g.L.Leaf.meaning in
    let family = c.args.family.now in
    let G = turns_over value M family c.args.the_loop.now (plain c.args.t.now) in
    let none : family.options.now.narrow - c.loop-k._k ≡ 0 = omega (arith, c.loop-k-test.false) in
    record {
      state = c.loop-k.invariant.head.at_state;
      keeps = c.loop-k.invariant.keeps;
      at_each = λ v. ap (λ m. narrowings_of M family.options.now.thresholds (G v) m (value (leaf_of (plain c.loop-k.head.at) v))) (sym none) ∙ c.loop-k.invariant.rest v;
    }

pub narrowed-returns-clause-keeps : goal.narrowed-returns-clause-keeps
narrowed-returns-clause-keeps g t c =
    let a = c.args.tables.now.leaves in
    let b = c.combined.new.tables.leaves in
    let d = c.head_at.new.tables.leaves in
    let e = c.below.new.tables.leaves in
    let f = c.selected.new.tables.leaves in
    let z = c.selected-2.new.tables.leaves in
    keeps_both a f z (keeps_both a e f (keeps_both a d e (keeps_both a b d c.in_ok-candidate.ensures.keeps c.in_ok-made.ensures.keeps) (keeps_same d e c.in_ok-stable.ensures.same)) c.in_ok-at.ensures.keeps) c.in_ok-next.ensures.keeps

pub widened-loop-k-init : goal.widened-loop-k-init
widened-loop-k-init g t c =
    let value = g.L.Leaf.value in
    let M = g.L.Leaf.meaning in
    let family = c.args.family.now in
    let G = turns_over value M family c.args.the_loop.now (plain c.args.t.now) in
    record {
      rest = λ v.
          let d = value (leaf_of (plain c.args.t.now) v) in
          let count : ℕ → ℕ = round_count M family.options.now.thresholds family.options.now.delay in
          let same : d.variables ≡ family.variables = counted value family c.args.tables.now.leaves (numbered c.args.t.now) v c.requires.state in
          let all : c.round_count-rounds.result - 0 ≡ count d.variables = omega (arith, c.round_count-rounds.ensures, ap count same) in
          ap (λ m. rounds_of M family.options.now.thresholds family.options.now.delay (G v) m 0 (value (leaf_of (plain c.in_ok-head.head.at) v))) all
          ∙ ap (λ u. rounds_of M family.options.now.thresholds family.options.now.delay (G v) (count d.variables) 0 (value (leaf_of (erase u) v))) (c.in_ok-head.ensures.at ∙ c.in_ok-start.ensures);
      head = c.in_ok-head.ensures.head;
      keeps = c.in_ok-head.ensures.keeps;
      memory = c.in_ok-head.ensures.memory;
    }

pub widened-returns-then-is_everywhere-clause-at_each : goal.widened-returns-then-is_everywhere-clause-at_each
widened-returns-then-is_everywhere-clause-at_each g t c =
    let value = g.L.Leaf.value in
    let M = g.L.Leaf.meaning in
    let family = c.args.family.now in
    let G = turns_over value M family c.args.the_loop.now (plain c.args.t.now) in
    λ v.
    let x = value (leaf_of (plain c.loop-k.head.at) v) in
    let below : M.leq (G v x) x ≡ true =
    ap (λ w. M.leq w x) (sym (c.loop-k.invariant.head.next v)) ∙ (sym (c.in_ok-stable.ensures.at_each v) ∙ c.is_everywhere.ensures c.if-is_everywhere.true v)
    in
    sym (rounds_stay M family.options.now.thresholds family.options.now.delay (G v) (c.round_count-rounds.result - c.loop-k.k) c.loop-k.k x below) ∙ c.loop-k.invariant.rest v

pub widened-returns-then-is_everywhere-clause-keeps : goal.widened-returns-then-is_everywhere-clause-keeps
widened-returns-then-is_everywhere-clause-keeps g t c =
    keeps_both c.args.tables.now.leaves c.loop-k.tables.leaves c.below.new.tables.leaves c.loop-k.invariant.keeps (keeps_same c.loop-k.tables.leaves c.below.new.tables.leaves c.in_ok-stable.ensures.same)

pub widened-loop-k-preserved : goal.widened-loop-k-preserved
widened-loop-k-preserved g t c =
    let value = g.L.Leaf.value in
    let M = g.L.Leaf.meaning in
    let family = c.args.family.now in
    let G = turns_over value M family c.args.the_loop.now (plain c.args.t.now) in
    let made = c.in_ok-made.ensures in
    let next = c.in_ok-head-2.ensures in
    let a = c.args.tables.now.leaves in
    let b = c.loop-k.tables.leaves in
    let d = c.below.new.tables.leaves in
    let e = c.combined.new.tables.leaves in
    record {
      rest = λ v.
          let x = value (leaf_of (plain c.loop-k.head.at) v) in
          let w = value (leaf_of (plain c.loop-k.head.next) v) in
          let y = value (leaf_of (plain c.in_ok-head-2.head.at) v) in
          let moved : y ≡ round_by M family.options.now.thresholds (nat_lt c.loop-k.k family.options.now.delay) x w =
          ap (λ u. value (leaf_of (erase u) v)) next.at ∙ subst (λ n. value (leaf_of (plain c.in_ok-made.made) v) ≡ round_by M family.options.now.thresholds (nat_lt c.loop-k.k n) x w) c.from-delay.ensures (made.at_each v)
          in
          rounds_go M family.options.now.thresholds family.options.now.delay (G v) c.round_count-rounds.result c.loop-k.k x w y _ c.loop-k-test.true (c.loop-k.invariant.head.next v) moved (c.loop-k.invariant.rest v);
      head = next.head;
      keeps = keeps_both a e c.head_at-in-loop-k.new.tables.leaves (keeps_both a d e (keeps_both a b d c.loop-k.invariant.keeps (keeps_same b d c.in_ok-stable.ensures.same)) made.keeps) next.keeps;
      memory = next.memory;
    }

pub widened-returns-clause-keeps : goal.widened-returns-clause-keeps
widened-returns-clause-keeps g t c = c.loop-k.invariant.keeps

pub narrowed-returns-clause-memory : goal.narrowed-returns-clause-memory
narrowed-returns-clause-memory g t c =
    let value = g.L.Leaf.value in
    let M = g.L.Leaf.meaning in
    let family = c.args.family.now in
    let d = c.head_at.new.tables.leaves in
    let e = c.below.new.tables.leaves in
    let f = c.selected.new.tables.leaves in
    let z = c.selected-2.new.tables.leaves in
    let m = c.head_at.new.finals in
    memory_stays value M family f z m c.in_ok-next.ensures.keeps (memory_stays value M family e f m c.in_ok-at.ensures.keeps (memory_same value M family d e m c.in_ok-stable.ensures.same c.in_ok-made.ensures.memory))

pub widened-returns-then-is_everywhere-clause-memory : goal.widened-returns-then-is_everywhere-clause-memory
widened-returns-then-is_everywhere-clause-memory g t c =
    memory_same g.L.Leaf.value g.L.Leaf.meaning c.args.family.now c.loop-k.tables.leaves c.below.new.tables.leaves c.loop-k.finals c.in_ok-stable.ensures.same c.loop-k.invariant.memory

pub narrowed-returns-then-number-clause-memory : goal.narrowed-returns-then-number-clause-memory
narrowed-returns-then-number-clause-memory g t c =
    memory_stays g.L.Leaf.value g.L.Leaf.meaning c.args.family.now c.args.tables.now.leaves c.combined.new.tables.leaves c.args.finals.now c.in_ok-candidate.ensures.keeps c.requires.memory

pub narrowed-head_at-requires : goal.narrowed-head_at-requires
narrowed-head_at-requires g t c κs within =
    let value = g.L.Leaf.value in
    let M = g.L.Leaf.meaning in
    let family = c.args.family.now in
    let a = c.args.tables.now.leaves in
    let b = c.combined.new.tables.leaves in
    let state = state_stays value family a b (numbered c.args.t.now) c.in_ok-candidate.ensures.keeps c.requires.state in
    let at = c.in_ok-candidate.ensures.state in
    let memory = memory_stays value M family a b c.args.finals.now c.in_ok-candidate.ensures.keeps c.requires.memory in
    (omega arith, search rules)

pub widened-head_at-requires-in-loop-k : goal.widened-head_at-requires-in-loop-k
widened-head_at-requires-in-loop-k g t c κs within =
    let value = g.L.Leaf.value in
    let M = g.L.Leaf.meaning in
    let family = c.args.family.now in
    let a = c.loop-k.tables.leaves in
    let b = c.below.new.tables.leaves in
    let d = c.combined.new.tables.leaves in
    let f = c.loop-k.finals in
    let keeps = keeps_both a b d (keeps_same a b c.in_ok-stable.ensures.same) c.in_ok-made.ensures.keeps in
    let state = state_stays value family a d (numbered c.args.t.now) keeps (state_stays value family c.args.tables.now.leaves a (numbered c.args.t.now) c.loop-k.invariant.keeps c.requires.state) in
    let at = c.in_ok-made.ensures.state in
    let memory = memory_stays value M family a d f keeps c.loop-k.invariant.memory in
    (omega arith, search rules)

pub widened-below-requires-clause-t : goal.widened-below-requires-clause-t
widened-below-requires-clause-t g t c = state_sized g.L.Leaf.value c.args.family.now c.loop-k.tables.leaves (numbered c.loop-k.head.next) c.loop-k.invariant.head.next_state

pub widened-below-requires-clause-u : goal.widened-below-requires-clause-u
widened-below-requires-clause-u g t c = state_sized g.L.Leaf.value c.args.family.now c.loop-k.tables.leaves (numbered c.loop-k.head.at) c.loop-k.invariant.head.at_state

pub narrowed-below-requires-clause-t : goal.narrowed-below-requires-clause-t
narrowed-below-requires-clause-t g t c = state_sized g.L.Leaf.value c.args.family.now c.head_at.new.tables.leaves (numbered c.in_ok-made.made.next) c.in_ok-made.ensures.head.next_state

pub narrowed-below-requires-clause-u : goal.narrowed-below-requires-clause-u
narrowed-below-requires-clause-u g t c = state_sized g.L.Leaf.value c.args.family.now c.head_at.new.tables.leaves (numbered c.in_ok-made.made.at) c.in_ok-made.ensures.head.at_state
