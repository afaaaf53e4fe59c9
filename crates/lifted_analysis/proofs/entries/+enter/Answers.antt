use Rattle.std.proofs.Common.{rules, arith, ◌≡◌, ◌+◌, ◌∙◌, ◌++◌, ◌∷◌, [], ap, sym, subst, refl, true, false, not, Some, length, take, List, Bool}
use Rattle.c_tree.specs.Fit.{IsCodeOf}
use Rattle.c_tree.specs.Project.{projected}
use Rattle.c_tree.specs.Tree.{Code, Done, If}
use Rattle.c_tree.specs.View.{term, front, code, whole}
use Rattle.decision_tree.specs.Plain.{leaf_of}
use Rattle.decision_tree.specs.View.{numbered, plain}
use Rattle.decision_tree.proofs.Numbers.{keeps_same, keeps_both}
use Rattle.leaf_domain.specs.Leaves.{LeafValue}
use Rattle.leaf_domain.specs.Transfer.{assumed}
use Rattle.plain_analysis.proofs.EnteredLemmas.{on_ok, on_ok_by}
use Rattle.plain_analysis.proofs.Listed.{IsCodeOf-at}
use Rattle.plain_analysis.proofs.Sizes.{size-at, size_in}
use Rattle.plain_analysis.proofs.StatedLemmas.{loops-at}
use Rattle.plain_analysis.specs.Stated.{ArePartsOf, HasLoopsIn, HasLoopsOf}
use Rattle.plain_analysis.specs.Statements.{LoopParts, TestFirst, TestLast, inside, failing}
use Rattle.plain_analysis.specs.View.{parts_of}
use Rattle.plain_analysis.specs.Ways.{Ways, onto, enter, going_on, behind_loop}
use Rattle.lifted_analysis.specs.Entries.{Visit, plain_visit, visits_at, visits_both, visits_in, entered_with, entered_both, entered_sides, entered_group, entered_lap, entered_loop, HasEntered}
use Rattle.lifted_analysis.specs.Rules.{heads_where, heads_in, ruled_heads, passed_with, both_with, sides_with, group_with, body_with, lap_with, behind_with, head_with, AreCountedWith}
use Rattle.lifted_analysis.specs.States.{truths_in, ways_at}
use Rattle.lifted_analysis.specs.Steps.{kept_by, parts_at, failing_so}
use Rattle.lifted_analysis.proofs.EntryLemmas.{none_entered, entered_then, entered_as, entered_behind, if_entered, loop_entered, turns_before, visits_at-more, visits_at-If, visits_at-While, visits_at-Do, visits_at-Leave, visits_at-Block, visits_at-Skip, visits_at-Cond}
use Rattle.lifted_analysis.proofs.FamilyLemmas.{sides_smaller, block_smaller, part_If, part_Block}
use Rattle.lifted_analysis.proofs.IdleLemmas.{group_there}
use Rattle.lifted_analysis.proofs.LoopLemmas.{failing_is}
use Rattle.lifted_analysis.proofs.StateLemmas.{state_stays, state_sized, counted}
use Rattle.lifted_analysis.proofs.WalkLemmas.{passed_with-more, passed_with-If, passed_with-While, passed_with-Do, passed_with-Leave, passed_with-Block, passed_with-Skip, passed_with-Cond, heads_within, known_stays, known_same, known_made}
use Rattle.lifted_analysis.proofs.WaysLemmas.{states_stay, states_same, unchanged, made_as, if_made_as, if_counted_as, then_passed, both_made, both_counted}
use Rattle.lifted_analysis.proofs.entries.+enter.Goals as goal

-- ---- lists

pub enter_list-loop-s-init : goal.enter_list-loop-s-init
enter_list-loop-s-init g t c =
    let value = g.L.Leaf.value in
    let M = g.L.Leaf.meaning in
    let family = c.args.family.now in
    record { made = unchanged value family c.args.tables.now.leaves c.args.ways (λ v. ways_at value c.args.ways v) c.requires.states (λ v. refl); entered = none_entered value M family c.args.noted.now; memory = c.requires.memory }

pub enter_list-enter_stmt-requires : goal.enter_list-enter_stmt-requires
enter_list-enter_stmt-requires g t c κs within =
    let s = c.s-item.result in
    let fit : IsCodeOf c.args.family.now.variables (front s Done) = IsCodeOf-at c.args.family.now.variables c.args.list.now c.loop-s.s-index s c.loop-s-test.true c.s-item.is c.requires.part.0 in
    let states = c.loop-s.invariant.made.states in
    let p = whole c.args.family.now.program.now in
    let loops : HasLoopsOf p (front s Done) = loops-at p c.args.list.now c.loop-s.s-index s c.loop-s-test.true c.s-item.is c.requires.part.1 in
    let memory = c.loop-s.invariant.memory in
    (omega (arith, size-at c.args.list.now c.loop-s.s-index s c.loop-s-test.true c.s-item.is), search rules)

pub enter_list-loop-s-preserved : goal.enter_list-loop-s-preserved
enter_list-loop-s-preserved g t c =
    let value = g.L.Leaf.value in
    let M = g.L.Leaf.meaning in
    let family = c.args.family.now in
    let mode = family.options.now.mode in
    let H = heads_in value M family c.args.rule.now (plain c.args.here.now) in
    let w = c.args.ways in
    let list = c.args.list.now in
    let i = c.loop-s.s-index in
    let s = c.s-item.result in
    let new = c.in_ok-made.ensures in
    record {
      made = then_passed value family c.args.tables.now.leaves c.loop-s.tables.leaves c.enter_stmt.new.tables.leaves w c.loop-s.made c.in_ok-made.made
          (passed_with M family H (code (take i list))) (passed_with M family H (front s Done)) (passed_with M family H (code (take (i + 1) list))) c.loop-s.invariant.made new.made
          (λ v. sym (passed_with-more M family H list i s v (ways_at value w v) c.loop-s-test.true c.s-item.is));
      entered = entered_then value M family c.args.noted.now c.loop-s.noted c.enter_stmt.new.noted (entered_with value M family H (code (take i list)) w) (entered_with value M family H (front s Done) c.loop-s.made) (entered_with value M family H (code (take (i + 1) list)) w)
          (λ v.
          let ts = truths_in family.choices.now v in
          let u = ways_at value w v in
          ap (λ y. visits_at M mode ts (H v) (code (take i list)) u ++ visits_at M mode ts (H v) (front s Done) y) (c.loop-s.invariant.made.at_each v) ∙ visits_at-more M mode ts (H v) list i s u c.loop-s-test.true c.s-item.is)
          c.loop-s.invariant.entered new.entered;
      memory = new.memory;
    }

-- ---- statements

pub enter_stmt-returns-in_ok-enter-in-Assign-clause-memory : goal.enter_stmt-returns-in_ok-enter-in-Assign-clause-memory
enter_stmt-returns-in_ok-enter-in-Assign-clause-memory g t c =
    let value = g.L.Leaf.value in
    let M = g.L.Leaf.meaning in
    let family = c.args.family.now in
    let a = c.args.tables.now.leaves in
    let b = c.enter.new.tables.leaves in
    let f = c.args.finals.now in
    known_made value M family c.args.rule.now c.after_step.result b c.after_step.new.tables.leaves f _ c.after_step.ensures (known_same value M family c.args.rule.now a b f c.in_ok-enter-in-Assign.ensures.same c.requires.memory)

pub enter_stmt-returns-in_ok-enter-in-Input-clause-memory : goal.enter_stmt-returns-in_ok-enter-in-Input-clause-memory
enter_stmt-returns-in_ok-enter-in-Input-clause-memory g t c =
    let value = g.L.Leaf.value in
    let M = g.L.Leaf.meaning in
    let family = c.args.family.now in
    let a = c.args.tables.now.leaves in
    let b = c.enter-in-Input.new.tables.leaves in
    let f = c.args.finals.now in
    known_made value M family c.args.rule.now c.after_step-in-Input.result b c.after_step-in-Input.new.tables.leaves f _ c.after_step-in-Input.ensures (known_same value M family c.args.rule.now a b f c.in_ok-enter-in-Input.ensures.same c.requires.memory)

pub enter_stmt-returns-in_ok-enter-in-Assert-clause-memory : goal.enter_stmt-returns-in_ok-enter-in-Assert-clause-memory
enter_stmt-returns-in_ok-enter-in-Assert-clause-memory g t c =
    let value = g.L.Leaf.value in
    let M = g.L.Leaf.meaning in
    let family = c.args.family.now in
    let a = c.args.tables.now.leaves in
    let b = c.enter-in-Assert.new.tables.leaves in
    let f = c.args.finals.now in
    known_made value M family c.args.rule.now c.after_step-in-Assert.result b c.after_step-in-Assert.new.tables.leaves f _ c.after_step-in-Assert.ensures (known_same value M family c.args.rule.now a b f c.in_ok-enter-in-Assert.ensures.same c.requires.memory)

pub enter_stmt-returns-in_ok-enter-in-Leave-clause-memory : goal.enter_stmt-returns-in_ok-enter-in-Leave-clause-memory
enter_stmt-returns-in_ok-enter-in-Leave-clause-memory g t c =
    let value = g.L.Leaf.value in
    let M = g.L.Leaf.meaning in
    let family = c.args.family.now in
    let a = c.args.tables.now.leaves in
    let b = c.enter-in-Leave.new.tables.leaves in
    let f = c.args.finals.now in
    known_made value M family c.args.rule.now c.leave.result b c.leave.new.tables.leaves f _ c.leave.ensures (known_same value M family c.args.rule.now a b f c.in_ok-enter-in-Leave.ensures.same c.requires.memory)

pub enter_stmt-after_step-requires-clause-states : goal.enter_stmt-after_step-requires-clause-states
enter_stmt-after_step-requires-clause-states g t c = states_same g.L.Leaf.value c.args.family.now c.args.tables.now.leaves c.enter.new.tables.leaves c.args.ways c.in_ok-enter-in-Assign.ensures.same c.requires.states

pub enter_stmt-after_step-requires-in-Input-clause-states : goal.enter_stmt-after_step-requires-in-Input-clause-states
enter_stmt-after_step-requires-in-Input-clause-states g t c = states_same g.L.Leaf.value c.args.family.now c.args.tables.now.leaves c.enter-in-Input.new.tables.leaves c.args.ways c.in_ok-enter-in-Input.ensures.same c.requires.states

pub enter_stmt-after_step-requires-in-Assert-clause-states : goal.enter_stmt-after_step-requires-in-Assert-clause-states
enter_stmt-after_step-requires-in-Assert-clause-states g t c = states_same g.L.Leaf.value c.args.family.now c.args.tables.now.leaves c.enter-in-Assert.new.tables.leaves c.args.ways c.in_ok-enter-in-Assert.ensures.same c.requires.states

pub enter_stmt-leave-requires-clause-states : goal.enter_stmt-leave-requires-clause-states
enter_stmt-leave-requires-clause-states g t c = states_same g.L.Leaf.value c.args.family.now c.args.tables.now.leaves c.enter-in-Leave.new.tables.leaves c.args.ways c.in_ok-enter-in-Leave.ensures.same c.requires.states

pub enter_stmt-returns-in_ok-enter-in-Leave-clause-made : goal.enter_stmt-returns-in_ok-enter-in-Leave-clause-made
enter_stmt-returns-in_ok-enter-in-Leave-clause-made g t c =
    let value = g.L.Leaf.value in
    let M = g.L.Leaf.meaning in
    let family = c.args.family.now in
    let mode = family.options.now.mode in
    let H = heads_in value M family c.args.rule.now (plain c.args.here.now) in
    let w = c.args.ways in
    let i = c.in-Leave in
    let a = c.args.tables.now.leaves in
    let b = c.enter-in-Leave.new.tables.leaves in
    if_made_as value family c.leave.result a b c.leave.new.tables.leaves _ (λ v. passed_with M family H (front c.args.s.now Done) v (ways_at value w v)) (keeps_same a b c.in_ok-enter-in-Leave.ensures.same)
    (λ v. passed_with-Leave M family H c.args.s.now i.place i.jump v (ways_at value w v) i.is) c.leave.ensures

pub enter_stmt-returns-in_ok-enter-in-Leave-clause-entered : goal.enter_stmt-returns-in_ok-enter-in-Leave-clause-entered
enter_stmt-returns-in_ok-enter-in-Leave-clause-entered g t c =
    let value = g.L.Leaf.value in
    let M = g.L.Leaf.meaning in
    let family = c.args.family.now in
    let mode = family.options.now.mode in
    let H = heads_in value M family c.args.rule.now (plain c.args.here.now) in
    let w = c.args.ways in
    let i = c.in-Leave in
    if_entered value M family c.leave.result c.args.noted.now c.enter-in-Leave.new.noted _ (entered_with value M family H (front c.args.s.now Done) w)
    (λ v. visits_at-Leave M mode (truths_in family.choices.now v) (H v) c.args.s.now i.place i.jump (ways_at value w v) i.is) c.in_ok-enter-in-Leave.ensures.entered

pub enter_stmt-returns-in_ok-enter-in-Skip-clause-made : goal.enter_stmt-returns-in_ok-enter-in-Skip-clause-made
enter_stmt-returns-in_ok-enter-in-Skip-clause-made g t c =
    let value = g.L.Leaf.value in
    let M = g.L.Leaf.meaning in
    let family = c.args.family.now in
    let mode = family.options.now.mode in
    let H = heads_in value M family c.args.rule.now (plain c.args.here.now) in
    let w = c.args.ways in
    let a = c.args.tables.now.leaves in
    let b = c.enter-in-Skip.new.tables.leaves in
    let same = c.in_ok-enter-in-Skip.ensures.same in
    let G : List Bool → Ways = λ v. passed_with M family H (front c.args.s.now Done) v (ways_at value w v) in
    made_as value family a b b G G w (keeps_same a b same) (λ v. refl)
    (unchanged value family b w G (states_same value family a b w same c.requires.states) (λ v. passed_with-Skip M family H c.args.s.now c.in-Skip.place v (ways_at value w v) c.in-Skip.is))

pub enter_stmt-returns-in_ok-enter-in-Skip-clause-entered : goal.enter_stmt-returns-in_ok-enter-in-Skip-clause-entered
enter_stmt-returns-in_ok-enter-in-Skip-clause-entered g t c =
    let value = g.L.Leaf.value in
    let M = g.L.Leaf.meaning in
    let family = c.args.family.now in
    let mode = family.options.now.mode in
    let H = heads_in value M family c.args.rule.now (plain c.args.here.now) in
    let w = c.args.ways in
    entered_as value M family c.args.noted.now c.enter-in-Skip.new.noted _ (entered_with value M family H (front c.args.s.now Done) w)
    (λ v. visits_at-Skip M mode (truths_in family.choices.now v) (H v) c.args.s.now c.in-Skip.place (ways_at value w v) c.in-Skip.is) c.in_ok-enter-in-Skip.ensures.entered

pub enter_stmt-returns-in_ok-enter-in-Skip-clause-memory : goal.enter_stmt-returns-in_ok-enter-in-Skip-clause-memory
enter_stmt-returns-in_ok-enter-in-Skip-clause-memory g t c =
    known_same g.L.Leaf.value g.L.Leaf.meaning c.args.family.now c.args.rule.now c.args.tables.now.leaves c.enter-in-Skip.new.tables.leaves c.args.finals.now c.in_ok-enter-in-Skip.ensures.same c.requires.memory

pub enter_stmt-enter_if-requires : goal.enter_stmt-enter_if-requires
enter_stmt-enter_if-requires g t c κs within =
    let value = g.L.Leaf.value in
    let M = g.L.Leaf.meaning in
    let family = c.args.family.now in
    let a = c.args.tables.now.leaves in
    let b = c.enter-in-If.new.tables.leaves in
    let states = states_same value family a b c.args.ways c.in_ok-enter-in-If.ensures.same c.requires.states in
    let memory = known_same value M family c.args.rule.now a b c.args.finals.now c.in_ok-enter-in-If.ensures.same c.requires.memory in
    let i = c.in-If in
    let parts = part_If family.variables (whole family.program.now) c.args.s.now i.place i.test i.yes i.no c.deref.result.now c.deref-in-If.result.now i.is c.deref.ensures.value c.deref-in-If.ensures.value c.requires.part in
    (omega (arith, sides_smaller c.args.s.now i.place i.test i.yes i.no c.deref.result.now c.deref-in-If.result.now i.is c.deref.ensures.value c.deref-in-If.ensures.value), search rules)

pub enter_stmt-enter_list-requires : goal.enter_stmt-enter_list-requires
enter_stmt-enter_list-requires g t c κs within =
    let value = g.L.Leaf.value in
    let M = g.L.Leaf.meaning in
    let family = c.args.family.now in
    let a = c.args.tables.now.leaves in
    let b = c.enter-in-Block.new.tables.leaves in
    let states = states_same value family a b c.args.ways c.in_ok-enter-in-Block.ensures.same c.requires.states in
    let memory = known_same value M family c.args.rule.now a b c.args.finals.now c.in_ok-enter-in-Block.ensures.same c.requires.memory in
    let i = c.in-Block in
    let part = part_Block family.variables (whole family.program.now) c.args.s.now i.place i.body c.deref-in-Block.result.now i.is c.deref-in-Block.ensures.value c.requires.part in
    (omega (arith, block_smaller c.args.s.now i.place i.body c.deref-in-Block.result.now i.is c.deref-in-Block.ensures.value), search rules)

pub enter_stmt-returns-in_ok-enter-in-If-clause-made : goal.enter_stmt-returns-in_ok-enter-in-If-clause-made
enter_stmt-returns-in_ok-enter-in-If-clause-made g t c =
    let value = g.L.Leaf.value in
    let M = g.L.Leaf.meaning in
    let family = c.args.family.now in
    let mode = family.options.now.mode in
    let H = heads_in value M family c.args.rule.now (plain c.args.here.now) in
    let w = c.args.ways in
    let i = c.in-If in
    let a = c.args.tables.now.leaves in
    let b = c.enter-in-If.new.tables.leaves in
    let e = term i.test in
    if_made_as value family c.enter_if.result a b c.enter_if.new.tables.leaves _ (λ v. passed_with M family H (front c.args.s.now Done) v (ways_at value w v)) (keeps_same a b c.in_ok-enter-in-If.ensures.same)
    (λ v.
    ap (λ l. sides_with M family H e (code l) (code c.deref-in-If.result.now) v (ways_at value w v)) c.deref.ensures.value
    ∙ (ap (λ l. sides_with M family H e (code i.yes.items) (code l) v (ways_at value w v)) c.deref-in-If.ensures.value
    ∙ passed_with-If M family H c.args.s.now i.place i.test i.yes i.no v (ways_at value w v) i.is))
    c.enter_if.ensures.made

pub enter_stmt-returns-in_ok-enter-in-If-clause-entered : goal.enter_stmt-returns-in_ok-enter-in-If-clause-entered
enter_stmt-returns-in_ok-enter-in-If-clause-entered g t c =
    let value = g.L.Leaf.value in
    let M = g.L.Leaf.meaning in
    let family = c.args.family.now in
    let mode = family.options.now.mode in
    let H = heads_in value M family c.args.rule.now (plain c.args.here.now) in
    let w = c.args.ways in
    let i = c.in-If in
    let a = c.args.noted.now in
    let b = c.enter-in-If.new.noted in
    let z = c.enter_if.new.noted in
    let e = term i.test in
    let sides = entered_sides value M family H e (code c.deref.result.now) (code c.deref-in-If.result.now) w in
    let all = entered_with value M family H (front c.args.s.now Done) w in
    on_ok_by c.enter_if.result (HasEntered value M family b z sides) (HasEntered value M family a z all)
    (entered_then value M family a b z _ sides all
    (λ v.
    let ts = truths_in family.choices.now v in
    let u = ways_at value w v in
    let by : Code → Code → List Visit = λ p q. (plain_visit i.place (front c.args.s.now Done) u.behind ∷ []) ++ visits_both M mode ts (H v) (H v) p q (onto u (assumed M mode e true u.behind)) (assumed M mode e false u.behind) in
    ap (λ l. by (code l) (code c.deref-in-If.result.now)) c.deref.ensures.value ∙ (ap (λ l. by (code i.yes.items) (code l)) c.deref-in-If.ensures.value ∙ visits_at-If M mode ts (H v) c.args.s.now i.place i.test i.yes i.no u i.is))
    c.in_ok-enter-in-If.ensures.entered)
    c.enter_if.ensures.entered

pub enter_stmt-returns-in_ok-enter-in-Block-clause-made : goal.enter_stmt-returns-in_ok-enter-in-Block-clause-made
enter_stmt-returns-in_ok-enter-in-Block-clause-made g t c =
    let value = g.L.Leaf.value in
    let M = g.L.Leaf.meaning in
    let family = c.args.family.now in
    let mode = family.options.now.mode in
    let H = heads_in value M family c.args.rule.now (plain c.args.here.now) in
    let w = c.args.ways in
    let i = c.in-Block in
    let a = c.args.tables.now.leaves in
    let b = c.enter-in-Block.new.tables.leaves in
    if_made_as value family c.enter_list.result a b c.enter_list.new.tables.leaves _ (λ v. passed_with M family H (front c.args.s.now Done) v (ways_at value w v)) (keeps_same a b c.in_ok-enter-in-Block.ensures.same)
    (λ v. ap (λ l. passed_with M family H (code l) v (ways_at value w v)) c.deref-in-Block.ensures.value ∙ passed_with-Block M family H c.args.s.now i.place i.body v (ways_at value w v) i.is)
    c.enter_list.ensures.made

pub enter_stmt-returns-in_ok-enter-in-Block-clause-entered : goal.enter_stmt-returns-in_ok-enter-in-Block-clause-entered
enter_stmt-returns-in_ok-enter-in-Block-clause-entered g t c =
    let value = g.L.Leaf.value in
    let M = g.L.Leaf.meaning in
    let family = c.args.family.now in
    let mode = family.options.now.mode in
    let H = heads_in value M family c.args.rule.now (plain c.args.here.now) in
    let w = c.args.ways in
    let i = c.in-Block in
    let a = c.args.noted.now in
    let b = c.enter-in-Block.new.noted in
    let z = c.enter_list.new.noted in
    let bodies = entered_with value M family H (code c.deref-in-Block.result.now) w in
    let all = entered_with value M family H (front c.args.s.now Done) w in
    on_ok_by c.enter_list.result (HasEntered value M family b z bodies) (HasEntered value M family a z all)
    (entered_then value M family a b z _ bodies all
    (λ v.
    let ts = truths_in family.choices.now v in
    let u = ways_at value w v in
    ap (λ l. (plain_visit i.place (front c.args.s.now Done) u.behind ∷ []) ++ visits_at M mode ts (H v) (code l) u) c.deref-in-Block.ensures.value ∙ visits_at-Block M mode ts (H v) c.args.s.now i.place i.body u i.is)
    c.in_ok-enter-in-Block.ensures.entered)
    c.enter_list.ensures.entered

pub enter_stmt-returns-in-While-clause-made : goal.enter_stmt-returns-in-While-clause-made
enter_stmt-returns-in-While-clause-made g t c =
    let value = g.L.Leaf.value in
    let M = g.L.Leaf.meaning in
    let family = c.args.family.now in
    let mode = family.options.now.mode in
    let H = heads_in value M family c.args.rule.now (plain c.args.here.now) in
    let w = c.args.ways in
    let i = c.in-While in
    let a = c.args.tables.now.leaves in
    let by : LoopParts → List Bool → Ways = λ l v. behind_with M family H l v (ways_at value w v) (head_with M family H i.place l v (ways_at value w v).behind) in
    if_made_as value family c.enter_loop.result a a c.enter_loop.new.tables.leaves (by (TestFirst (term i.test) (code c.deref-in-While.result.now) (code c.deref-in-While-2.result.now))) (λ v. passed_with M family H (front c.args.s.now Done) v (ways_at value w v)) (keeps_same a a refl)
    (λ v. ap (λ l. by (TestFirst (term i.test) (code l) (code c.deref-in-While-2.result.now)) v) c.deref-in-While.ensures.value ∙ (ap (λ l. by (TestFirst (term i.test) (code i.step.items) (code l)) v) c.deref-in-While-2.ensures.value ∙ passed_with-While M family H c.args.s.now i.place i.test i.step i.body v (ways_at value w v) i.is))
    c.enter_loop.ensures.made

pub enter_stmt-returns-in-While-clause-entered : goal.enter_stmt-returns-in-While-clause-entered
enter_stmt-returns-in-While-clause-entered g t c =
    let value = g.L.Leaf.value in
    let M = g.L.Leaf.meaning in
    let family = c.args.family.now in
    let mode = family.options.now.mode in
    let H = heads_in value M family c.args.rule.now (plain c.args.here.now) in
    let w = c.args.ways in
    let i = c.in-While in
    let a = c.args.noted.now in
    let z = c.enter_loop.new.noted in
    let loops = entered_loop value M family H (front c.args.s.now Done) i.place (TestFirst (term i.test) (code c.deref-in-While.result.now) (code c.deref-in-While-2.result.now)) (plain w.behind) in
    let all = entered_with value M family H (front c.args.s.now Done) w in
    on_ok_by c.enter_loop.result (HasEntered value M family a z loops) (HasEntered value M family a z all)
    (entered_as value M family a z loops all
    (λ v. ap (λ l. entered_loop value M family H (front c.args.s.now Done) i.place (TestFirst (term i.test) (code l) (code c.deref-in-While-2.result.now)) (plain w.behind) v) c.deref-in-While.ensures.value ∙ (ap (λ l. entered_loop value M family H (front c.args.s.now Done) i.place (TestFirst (term i.test) (code i.step.items) (code l)) (plain w.behind) v) c.deref-in-While-2.ensures.value ∙ visits_at-While M mode (truths_in family.choices.now v) (H v) c.args.s.now i.place i.test i.step i.body (ways_at value w v) i.is)))
    c.enter_loop.ensures.entered

pub enter_stmt-returns-in-Do-clause-made : goal.enter_stmt-returns-in-Do-clause-made
enter_stmt-returns-in-Do-clause-made g t c =
    let value = g.L.Leaf.value in
    let M = g.L.Leaf.meaning in
    let family = c.args.family.now in
    let mode = family.options.now.mode in
    let H = heads_in value M family c.args.rule.now (plain c.args.here.now) in
    let w = c.args.ways in
    let i = c.in-Do in
    let a = c.args.tables.now.leaves in
    let by : LoopParts → List Bool → Ways = λ l v. behind_with M family H l v (ways_at value w v) (head_with M family H i.place l v (ways_at value w v).behind) in
    if_made_as value family c.enter_loop-in-Do.result a a c.enter_loop-in-Do.new.tables.leaves (by (TestLast (code c.deref-in-Do.result.now) i.test_place (term i.test))) (λ v. passed_with M family H (front c.args.s.now Done) v (ways_at value w v)) (keeps_same a a refl)
    (λ v. ap (λ l. by (TestLast (code l) i.test_place (term i.test)) v) c.deref-in-Do.ensures.value ∙ passed_with-Do M family H c.args.s.now i.place i.body i.test_place i.test v (ways_at value w v) i.is)
    c.enter_loop-in-Do.ensures.made

pub enter_stmt-returns-in-Do-clause-entered : goal.enter_stmt-returns-in-Do-clause-entered
enter_stmt-returns-in-Do-clause-entered g t c =
    let value = g.L.Leaf.value in
    let M = g.L.Leaf.meaning in
    let family = c.args.family.now in
    let mode = family.options.now.mode in
    let H = heads_in value M family c.args.rule.now (plain c.args.here.now) in
    let w = c.args.ways in
    let i = c.in-Do in
    let a = c.args.noted.now in
    let z = c.enter_loop-in-Do.new.noted in
    let loops = entered_loop value M family H (front c.args.s.now Done) i.place (TestLast (code c.deref-in-Do.result.now) i.test_place (term i.test)) (plain w.behind) in
    let all = entered_with value M family H (front c.args.s.now Done) w in
    on_ok_by c.enter_loop-in-Do.result (HasEntered value M family a z loops) (HasEntered value M family a z all)
    (entered_as value M family a z loops all
    (λ v. ap (λ l. entered_loop value M family H (front c.args.s.now Done) i.place (TestLast (code l) i.test_place (term i.test)) (plain w.behind) v) c.deref-in-Do.ensures.value ∙ visits_at-Do M mode (truths_in family.choices.now v) (H v) c.args.s.now i.place i.body i.test_place i.test (ways_at value w v) i.is))
    c.enter_loop-in-Do.ensures.entered

pub enter_stmt-returns-in-Cond-clause-made : goal.enter_stmt-returns-in-Cond-clause-made
enter_stmt-returns-in-Cond-clause-made g t c =
    let value = g.L.Leaf.value in
    let M = g.L.Leaf.meaning in
    let family = c.args.family.now in
    let mode = family.options.now.mode in
    let H = heads_in value M family c.args.rule.now (plain c.args.here.now) in
    let w = c.args.ways in
    let i = c.in-Cond in
    let a = c.args.tables.now.leaves in
    let choice = plain c.choice-choice.result.now in
    if_made_as value family c.enter_group.result a a c.enter_group.new.tables.leaves _ (λ v. passed_with M family H (front c.args.s.now Done) v (ways_at value w v)) (keeps_same a a refl)
    (λ v.
    ap (λ l. group_with M family H choice (code l) (code c.deref-in-Cond-2.result.now) v (ways_at value w v)) c.deref-in-Cond.ensures.value
    ∙ (ap (λ l. group_with M family H choice (code i.yes.items) (code l) v (ways_at value w v)) c.deref-in-Cond-2.ensures.value
    ∙ passed_with-Cond M family H c.args.s.now i.number i.yes i.no (leaf_of choice v) v (ways_at value w v) i.is (sym (c.choice-choice.ensures.at_each v))))
    c.enter_group.ensures.made

pub enter_stmt-returns-in-Cond-clause-entered : goal.enter_stmt-returns-in-Cond-clause-entered
enter_stmt-returns-in-Cond-clause-entered g t c =
    let value = g.L.Leaf.value in
    let M = g.L.Leaf.meaning in
    let family = c.args.family.now in
    let mode = family.options.now.mode in
    let H = heads_in value M family c.args.rule.now (plain c.args.here.now) in
    let w = c.args.ways in
    let i = c.in-Cond in
    let a = c.args.noted.now in
    let z = c.enter_group.new.noted in
    let choice = plain c.choice-choice.result.now in
    let both = entered_group value M family H choice (code c.deref-in-Cond.result.now) (code c.deref-in-Cond-2.result.now) w in
    let all = entered_with value M family H (front c.args.s.now Done) w in
    on_ok_by c.enter_group.result (HasEntered value M family a z both) (HasEntered value M family a z all)
    (entered_as value M family a z both all
    (λ v.
    ap (λ l. entered_group value M family H choice (code l) (code c.deref-in-Cond-2.result.now) w v) c.deref-in-Cond.ensures.value
    ∙ (ap (λ l. entered_group value M family H choice (code i.yes.items) (code l) w v) c.deref-in-Cond-2.ensures.value
    ∙ visits_at-Cond M mode (truths_in family.choices.now v) (H v) c.args.s.now i.number i.yes i.no (leaf_of choice v) (ways_at value w v) i.is (sym (c.choice-choice.ensures.at_each v)))))
    c.enter_group.ensures.entered

-- ---- two lists

pub enter_both-enter_list-requires-2 : goal.enter_both-enter_list-requires-2
enter_both-enter_list-requires-2 g t c κs within =
    let value = g.L.Leaf.value in
    let family = c.args.family.now in
    let first = c.in_ok-first.ensures in
    let states = first.made.states in
    let second = state_stays value family c.args.tables.now.leaves c.enter_list.new.tables.leaves (numbered c.args.second) first.made.keeps c.requires.second in
    let memory = first.memory in
    (omega arith, search rules)

pub enter_both-returns-clause-made : goal.enter_both-returns-clause-made
enter_both-returns-clause-made g t c =
    let value = g.L.Leaf.value in
    let M = g.L.Leaf.meaning in
    let family = c.args.family.now in
    let mode = family.options.now.mode in
    let H = heads_in value M family c.args.rule.now (plain c.args.here.now) in
    let w = c.args.ways in
    let K = heads_in value M family c.args.rule.now (plain c.args.no_here.now) in
    both_made value family M c.args.tables.now.leaves c.enter_list.new.tables.leaves c.enter_list-2.new.tables.leaves c.joined.new.tables.leaves w c.in_ok-first.first c.in_ok-made.made c.args.second c.in_ok-behind.behind
    (passed_with M family H (code c.args.yes.now)) (passed_with M family K (code c.args.no.now)) c.in_ok-first.ensures.made c.in_ok-made.ensures.made c.in_ok-behind.ensures

pub enter_both-returns-clause-counted : goal.enter_both-returns-clause-counted
enter_both-returns-clause-counted g t c =
    let value = g.L.Leaf.value in
    let M = g.L.Leaf.meaning in
    let family = c.args.family.now in
    let mode = family.options.now.mode in
    let H = heads_in value M family c.args.rule.now (plain c.args.here.now) in
    let w = c.args.ways in
    let K = heads_in value M family c.args.rule.now (plain c.args.no_here.now) in
    λ v.
    both_counted value family c.args.tables.now.leaves c.enter_list.new.tables.leaves c.enter_list-2.new.tables.leaves w c.in_ok-first.first c.in_ok-made.made c.args.second
    (passed_with M family H (code c.args.yes.now)) (passed_with M family K (code c.args.no.now)) v c.in_ok-first.ensures.made c.in_ok-made.ensures.made

pub enter_both-returns-clause-entered : goal.enter_both-returns-clause-entered
enter_both-returns-clause-entered g t c =
    let value = g.L.Leaf.value in
    let M = g.L.Leaf.meaning in
    let family = c.args.family.now in
    let mode = family.options.now.mode in
    let H = heads_in value M family c.args.rule.now (plain c.args.here.now) in
    let w = c.args.ways in
    let K = heads_in value M family c.args.rule.now (plain c.args.no_here.now) in
    let p = code c.args.yes.now in
    let q = code c.args.no.now in
    let y = c.args.second in
    let ps = entered_with value M family H p w in
    let qs : List Bool → List Visit = λ v. visits_at M mode (truths_in family.choices.now v) (K v) q (onto (ways_at value c.in_ok-first.first v) (value (leaf_of (plain y) v))) in
    entered_then value M family c.args.noted.now c.enter_list.new.noted c.enter_list-2.new.noted ps qs (entered_both value M family H K p q w (plain y))
    (λ v. ap (λ (u : Ways). ps v ++ visits_at M mode (truths_in family.choices.now v) (K v) q (onto u (value (leaf_of (plain y) v)))) (c.in_ok-first.ensures.made.at_each v))
    c.in_ok-first.ensures.entered c.in_ok-made.ensures.entered

pub enter_both-returns-clause-memory : goal.enter_both-returns-clause-memory
enter_both-returns-clause-memory g t c =
    known_stays g.L.Leaf.value g.L.Leaf.meaning c.args.family.now c.args.rule.now c.enter_list-2.new.tables.leaves c.joined.new.tables.leaves c.enter_list-2.new.finals c.in_ok-behind.ensures.keeps c.in_ok-made.ensures.memory

pub enter_if-after_step-requires-clause-states : goal.enter_if-after_step-requires-clause-states
enter_if-after_step-requires-clause-states g t c =
    states_stay g.L.Leaf.value c.args.family.now c.args.tables.now.leaves c.stepped.new.tables.leaves c.args.ways c.in_ok-in_no.ensures.keeps c.requires.states

pub enter_if-enter_both-requires : goal.enter_if-enter_both-requires
enter_if-enter_both-requires g t c κs within =
    let value = g.L.Leaf.value in
    let M = g.L.Leaf.meaning in
    let family = c.args.family.now in
    let r = c.args.rule.now in
    let a = c.args.tables.now.leaves in
    let b = c.stepped.new.tables.leaves in
    let d = c.after_step.new.tables.leaves in
    let f = c.args.finals.now in
    let states = c.in_ok-in_yes.ensures.states in
    let second = state_stays value family b d (numbered c.in_ok-in_no.in_no) c.in_ok-in_yes.ensures.keeps c.in_ok-in_no.ensures.state in
    let memory = known_stays value M family r b d f c.in_ok-in_yes.ensures.keeps (known_stays value M family r a b f c.in_ok-in_no.ensures.keeps c.requires.memory) in
    (omega arith, search rules)

pub enter_if-returns-clause-made : goal.enter_if-returns-clause-made
enter_if-returns-clause-made g t c =
    let value = g.L.Leaf.value in
    let M = g.L.Leaf.meaning in
    let family = c.args.family.now in
    let mode = family.options.now.mode in
    let H = heads_in value M family c.args.rule.now (plain c.args.here.now) in
    let w = c.args.ways in
    let e = term c.args.test.now in
    let p = code c.args.yes.now in
    let q = code c.args.no.now in
    let a = c.args.tables.now.leaves in
    let b = c.stepped.new.tables.leaves in
    let d = c.after_step.new.tables.leaves in
    if_made_as value family c.enter_both.result a d c.enter_both.new.tables.leaves
    (λ v. both_with M family H H p q v (ways_at value c.in_ok-in_yes.in_yes v) (value (leaf_of (plain c.in_ok-in_no.in_no) v))) (λ v. sides_with M family H e p q v (ways_at value w v))
    (keeps_both a b d c.in_ok-in_no.ensures.keeps c.in_ok-in_yes.ensures.keeps)
    (λ v.
    ap (λ u. both_with M family H H p q v u (value (leaf_of (plain c.in_ok-in_no.in_no) v))) (c.in_ok-in_yes.ensures.at_each v)
    ∙ ap (λ (x : LeafValue). both_with M family H H p q v (onto (ways_at value w v) (assumed M mode e true (ways_at value w v).behind)) x) (c.in_ok-in_no.ensures.at_each v))
    c.enter_both.ensures.made

pub enter_if-returns-clause-entered : goal.enter_if-returns-clause-entered
enter_if-returns-clause-entered g t c =
    let value = g.L.Leaf.value in
    let M = g.L.Leaf.meaning in
    let family = c.args.family.now in
    let mode = family.options.now.mode in
    let H = heads_in value M family c.args.rule.now (plain c.args.here.now) in
    let w = c.args.ways in
    let e = term c.args.test.now in
    let p = code c.args.yes.now in
    let q = code c.args.no.now in
    let a = c.args.noted.now in
    let z = c.enter_both.new.noted in
    let both = entered_both value M family H H p q c.in_ok-in_yes.in_yes (plain c.in_ok-in_no.in_no) in
    let all = entered_sides value M family H e p q w in
    on_ok_by c.enter_both.result (HasEntered value M family a z both) (HasEntered value M family a z all)
    (entered_as value M family a z both all
    (λ v.
    let by : Ways → LeafValue → List Visit = λ u x. visits_both M mode (truths_in family.choices.now v) (H v) (H v) p q u x in
    ap (λ u. by u (value (leaf_of (plain c.in_ok-in_no.in_no) v))) (c.in_ok-in_yes.ensures.at_each v)
    ∙ ap (by (onto (ways_at value w v) (assumed M mode e true (ways_at value w v).behind))) (c.in_ok-in_no.ensures.at_each v)))
    c.enter_both.ensures.entered

pub enter_group-kept-requires-clause-state : goal.enter_group-kept-requires-clause-state
enter_group-kept-requires-clause-state g t c =
    (states_same g.L.Leaf.value c.args.family.now c.args.tables.now.leaves c.within-2.new.tables.leaves c.args.ways (c.in_ok-no_here.ensures.same ∙ c.in_ok-yes_here.ensures.same) c.requires.states).behind

pub enter_group-keep_behind-requires-clause-states : goal.enter_group-keep_behind-requires-clause-states
enter_group-keep_behind-requires-clause-states g t c =
    let value = g.L.Leaf.value in
    let family = c.args.family.now in
    let r = c.within-2.new.tables.leaves in
    states_stay value family r c.kept.new.tables.leaves c.args.ways c.in_ok-in_no.ensures.keeps (states_same value family c.args.tables.now.leaves r c.args.ways (c.in_ok-no_here.ensures.same ∙ c.in_ok-yes_here.ensures.same) c.requires.states)

pub enter_group-enter_both-requires : goal.enter_group-enter_both-requires
enter_group-enter_both-requires g t c κs within =
    let value = g.L.Leaf.value in
    let M = g.L.Leaf.meaning in
    let family = c.args.family.now in
    let rule = c.args.rule.now in
    let a = c.args.tables.now.leaves in
    let r = c.within-2.new.tables.leaves in
    let b = c.kept.new.tables.leaves in
    let d = c.keep_behind.new.tables.leaves in
    let f = c.args.finals.now in
    let states = c.in_ok-in_yes.ensures.states in
    let second = state_stays value family b d (numbered c.in_ok-in_no.in_no) c.in_ok-in_yes.ensures.keeps c.in_ok-in_no.ensures.state in
    let first = known_same value M family rule a r f (c.in_ok-no_here.ensures.same ∙ c.in_ok-yes_here.ensures.same) c.requires.memory in
    let memory = known_stays value M family rule b d f c.in_ok-in_yes.ensures.keeps (known_stays value M family rule r b f c.in_ok-in_no.ensures.keeps first) in
    (omega arith, search rules)

pub enter_group-returns-clause-made : goal.enter_group-returns-clause-made
enter_group-returns-clause-made g t c =
    let value = g.L.Leaf.value in
    let M = g.L.Leaf.meaning in
    let family = c.args.family.now in
    let mode = family.options.now.mode in
    let H = heads_in value M family c.args.rule.now (plain c.args.here.now) in
    let w = c.args.ways in
    let choice = plain c.args.choice.now in
    let p = code c.args.yes.now in
    let q = code c.args.no.now in
    let P = heads_in value M family c.args.rule.now (plain c.in_ok-yes_here.yes_here) in
    let Q = heads_in value M family c.args.rule.now (plain c.in_ok-no_here.no_here) in
    let yes : (v : List Bool) → P v ≡ heads_where (leaf_of choice v) (H v) = λ v. heads_within (leaf_of (plain c.args.here.now) v) (leaf_of choice v) _ (ruled_heads value M family c.args.rule.now v) (c.in_ok-yes_here.ensures.at_each v) in
    let no : (v : List Bool) → Q v ≡ heads_where (not (leaf_of choice v)) (H v) = λ v. heads_within (leaf_of (plain c.args.here.now) v) (not (leaf_of choice v)) _ (ruled_heads value M family c.args.rule.now v) (c.in_ok-no_here.ensures.at_each v) in
    let in_yes = c.in_ok-in_yes in
    let in_no = c.in_ok-in_no in
    let a = c.args.tables.now.leaves in
    let r = c.within-2.new.tables.leaves in
    let b = c.kept.new.tables.leaves in
    let d = c.keep_behind.new.tables.leaves in
    let A = c.transfer_is_sound.ensures.answers mode in
    if_counted_as value family c.enter_both.result a d c.enter_both.new.tables.leaves
    (λ v. AreCountedWith M family P Q p q v (ways_at value in_yes.in_yes v) (value (leaf_of (plain in_no.in_no) v)))
    (λ v. both_with M family P Q p q v (ways_at value in_yes.in_yes v) (value (leaf_of (plain in_no.in_no) v))) (λ v. group_with M family H choice p q v (ways_at value w v))
    (keeps_both a b d (keeps_both a r b (keeps_same a r (c.in_ok-no_here.ensures.same ∙ c.in_ok-yes_here.ensures.same)) in_no.ensures.keeps) in_yes.ensures.keeps)
    (λ v over.
    group_there M g.met.L.Leaf.laws mode A family.variables c.requires.family.few (H v) (P v) (Q v) (leaf_of choice v) (projected (truths_in family.choices.now v) p) (projected (truths_in family.choices.now v) q)
    (ways_at value w v) (ways_at value in_yes.in_yes v) (value (leaf_of (plain in_no.in_no) v)) (yes v) (no v) (in_yes.ensures.at_each v) (in_no.ensures.at_each v)
    (counted value family a (numbered w.behind) v c.requires.states.behind) over)
    c.enter_both.ensures.counted c.enter_both.ensures.made

pub enter_group-returns-clause-entered : goal.enter_group-returns-clause-entered
enter_group-returns-clause-entered g t c =
    let value = g.L.Leaf.value in
    let M = g.L.Leaf.meaning in
    let family = c.args.family.now in
    let mode = family.options.now.mode in
    let H = heads_in value M family c.args.rule.now (plain c.args.here.now) in
    let w = c.args.ways in
    let choice = plain c.args.choice.now in
    let p = code c.args.yes.now in
    let q = code c.args.no.now in
    let P = heads_in value M family c.args.rule.now (plain c.in_ok-yes_here.yes_here) in
    let Q = heads_in value M family c.args.rule.now (plain c.in_ok-no_here.no_here) in
    let yes : (v : List Bool) → P v ≡ heads_where (leaf_of choice v) (H v) = λ v. heads_within (leaf_of (plain c.args.here.now) v) (leaf_of choice v) _ (ruled_heads value M family c.args.rule.now v) (c.in_ok-yes_here.ensures.at_each v) in
    let no : (v : List Bool) → Q v ≡ heads_where (not (leaf_of choice v)) (H v) = λ v. heads_within (leaf_of (plain c.args.here.now) v) (not (leaf_of choice v)) _ (ruled_heads value M family c.args.rule.now v) (c.in_ok-no_here.ensures.at_each v) in
    let in_yes = c.in_ok-in_yes in
    let in_no = c.in_ok-in_no in
    let a = c.args.noted.now in
    let z = c.enter_both.new.noted in
    let both = entered_both value M family P Q p q in_yes.in_yes (plain in_no.in_no) in
    let all = entered_group value M family H choice p q w in
    on_ok_by c.enter_both.result (HasEntered value M family a z both) (HasEntered value M family a z all)
    (entered_as value M family a z both all
    (λ v.
    let ts = truths_in family.choices.now v in
    let b = leaf_of choice v in
    let u = ways_at value w v in
    let x = value (leaf_of (plain in_no.in_no) v) in
    let y = ways_at value in_yes.in_yes v in
    ap (λ K. visits_both M mode ts K (Q v) p q y x) (yes v)
    ∙ (ap (λ K. visits_both M mode ts (heads_where b (H v)) K p q y x) (no v)
    ∙ (ap (λ k. visits_both M mode ts (heads_where b (H v)) (heads_where (not b) (H v)) p q k x) (in_yes.ensures.at_each v)
    ∙ ap (visits_both M mode ts (heads_where b (H v)) (heads_where (not b) (H v)) p q (onto u (kept_by true b u.behind))) (in_no.ensures.at_each v)))))
    c.enter_both.ensures.entered

-- ---- loops

pub enter_loop-enter_lap-requires : goal.enter_loop-enter_lap-requires
enter_loop-enter_lap-requires g t c κs within =
    let value = g.L.Leaf.value in
    let M = g.L.Leaf.meaning in
    let family = c.args.family.now in
    let r = c.args.rule.now in
    let b = c.head_tree.new.tables.leaves in
    let d = c.enter.new.tables.leaves in
    let same = c.in_ok-enter.ensures.same in
    let head = state_stays value family b d (numbered c.in_ok-head.head) (keeps_same b d same) c.in_ok-head.ensures.lifted.state in
    let memory = known_same value M family r b d c.head_tree.new.finals same c.in_ok-head.ensures.memory in
    (omega arith, search rules)

pub enter_loop-add_turn-requires-clause-at : goal.enter_loop-add_turn-requires-clause-at
enter_loop-add_turn-requires-clause-at g t c =
    let value = g.L.Leaf.value in
    let M = g.L.Leaf.meaning in
    let family = c.args.family.now in
    let one = turns_before value M family c.args.noted.now c.enter.new.noted _ c.in_ok-enter.ensures.entered in
    let two = turns_before value M family c.enter.new.noted c.enter_lap.new.noted _ c.in_ok-passed.ensures.entered in
    omega (arith, ap length c.as_slice-turns.ensures.value, one, two)

pub enter_loop-add_turn-requires-clause-entered : goal.enter_loop-add_turn-requires-clause-entered
enter_loop-add_turn-requires-clause-entered g t c = state_sized g.L.Leaf.value c.args.family.now c.args.tables.now.leaves (numbered c.args.ways.behind) c.requires.states.behind

pub enter_loop-add_turn-requires-clause-head : goal.enter_loop-add_turn-requires-clause-head
enter_loop-add_turn-requires-clause-head g t c = state_sized g.L.Leaf.value c.args.family.now c.head_tree.new.tables.leaves (numbered c.in_ok-head.head) c.in_ok-head.ensures.lifted.state

pub enter_loop-add_turn-requires-clause-again : goal.enter_loop-add_turn-requires-clause-again
enter_loop-add_turn-requires-clause-again g t c = state_sized g.L.Leaf.value c.args.family.now c.enter_lap.new.tables.leaves (numbered c.in_ok-passed.passed.again) c.in_ok-passed.ensures.again.state

pub enter_loop-failing-requires-clause-at : goal.enter_loop-failing-requires-clause-at
enter_loop-failing-requires-clause-at g t c =
    let value = g.L.Leaf.value in
    let family = c.args.family.now in
    let b = c.head_tree.new.tables.leaves in
    let d = c.enter.new.tables.leaves in
    let e = c.enter_lap.new.tables.leaves in
    state_stays value family b e (numbered c.in_ok-head.head) (keeps_both b d e (keeps_same b d c.in_ok-enter.ensures.same) c.in_ok-passed.ensures.made.keeps) c.in_ok-head.ensures.lifted.state

pub enter_loop-behind_loop-requires-clause-states : goal.enter_loop-behind_loop-requires-clause-states
enter_loop-behind_loop-requires-clause-states g t c =
    let value = g.L.Leaf.value in
    let family = c.args.family.now in
    let a = c.args.tables.now.leaves in
    let b = c.head_tree.new.tables.leaves in
    let d = c.enter.new.tables.leaves in
    let e = c.enter_lap.new.tables.leaves in
    let z = c.failing.new.tables.leaves in
    states_stay value family a z c.args.ways
    (keeps_both a e z (keeps_both a d e (keeps_both a b d c.in_ok-head.ensures.lifted.keeps (keeps_same b d c.in_ok-enter.ensures.same)) c.in_ok-passed.ensures.made.keeps) c.in_ok-failed.ensures.keeps) c.requires.states

pub enter_loop-behind_loop-requires-clause-body : goal.enter_loop-behind_loop-requires-clause-body
enter_loop-behind_loop-requires-clause-body g t c =
    states_stay g.L.Leaf.value c.args.family.now c.enter_lap.new.tables.leaves c.failing.new.tables.leaves c.in_ok-passed.passed.left c.in_ok-failed.ensures.keeps c.in_ok-passed.ensures.made.states

pub enter_loop-returns-clause-made : goal.enter_loop-returns-clause-made
enter_loop-returns-clause-made g t c =
    let value = g.L.Leaf.value in
    let M = g.L.Leaf.meaning in
    let family = c.args.family.now in
    let mode = family.options.now.mode in
    let H = heads_in value M family c.args.rule.now (plain c.args.here.now) in
    let w = c.args.ways in
    let l = parts_of c.args.the_loop.now.parts in
    let place = c.args.the_loop.now.place in
    let a = c.args.tables.now.leaves in
    let b = c.head_tree.new.tables.leaves in
    let d = c.enter.new.tables.leaves in
    let e = c.enter_lap.new.tables.leaves in
    let z = c.failing.new.tables.leaves in
    let head = c.in_ok-head.ensures.lifted in
    let left = c.in_ok-passed.ensures.made in
    let failed = c.in_ok-failed.ensures in
    if_made_as value family c.behind_loop.result a z c.behind_loop.new.tables.leaves
    (λ v. behind_loop M (ways_at value w v) (value (leaf_of (plain c.in_ok-failed.failed) v)) (ways_at value c.in_ok-passed.passed.left v)) (λ v. behind_with M family H l v (ways_at value w v) (head_with M family H place l v (ways_at value w v).behind))
    (keeps_both a e z (keeps_both a d e (keeps_both a b d head.keeps (keeps_same b d c.in_ok-enter.ensures.same)) left.keeps) failed.keeps)
    (λ v.
    let u = ways_at value w v in
    let ts = truths_in family.choices.now v in
    let x = value (leaf_of (plain c.in_ok-head.head) v) in
    let fails : value (leaf_of (plain c.in_ok-failed.failed) v) ≡ failing M mode (H v) (parts_at ts l) x
    = failed.at_each v ∙ (ap (failing_so M mode l x) (left.at_each v) ∙ failing_is M mode (H v) ts l x) in
    ap (λ (y : LeafValue). behind_loop M u y (ways_at value c.in_ok-passed.passed.left v)) fails
    ∙ (ap (behind_loop M u (failing M mode (H v) (parts_at ts l) x)) (left.at_each v)
    ∙ ap (λ (y : LeafValue). behind_with M family H l v u y) (head.at_each v)))
    c.behind_loop.ensures

pub enter_loop-returns-clause-entered : goal.enter_loop-returns-clause-entered
enter_loop-returns-clause-entered g t c =
    let value = g.L.Leaf.value in
    let M = g.L.Leaf.meaning in
    let family = c.args.family.now in
    let mode = family.options.now.mode in
    let H = heads_in value M family c.args.rule.now (plain c.args.here.now) in
    let w = c.args.ways in
    let l = parts_of c.args.the_loop.now.parts in
    let place = c.args.the_loop.now.place in
    let s = front c.args.s.now Done in
    let a = c.args.noted.now in
    let b = c.enter.new.noted in
    let d = c.enter_lap.new.noted in
    let z = c.add_turn.new.noted in
    let head = plain c.in_ok-head.head in
    let x : List Bool → LeafValue = λ v. value (leaf_of head v) in
    let k : List Bool → LeafValue = λ v. value (leaf_of (plain c.in_ok-passed.passed.again) v) in
    let u : List Bool → LeafValue = λ v. value (leaf_of (plain w.behind) v) in
    let visits : List Bool → LeafValue → LeafValue → List Visit = λ v h j. record { place = place; statement = s; leaf = h; turn = Some (u v, j) } ∷ visits_in M mode (truths_in family.choices.now v) (H v) l h in
    let all = entered_loop value M family H s place l (plain w.behind) in
    on_ok c.behind_loop.result (HasEntered value M family a z all)
    (entered_as value M family a z (λ v. visits v (x v) (k v)) all
    (λ v. ap (visits v (x v)) (c.in_ok-passed.ensures.again.at_each v) ∙ ap (λ h. visits v h (lap_with M family H l v h)) (c.in_ok-head.ensures.lifted.at_each v))
    (loop_entered value M family a b d z _ place s x u k (entered_lap value M family H l head) (ap length c.as_slice-turns.ensures.value) c.in_ok-enter.ensures.entered c.in_ok-passed.ensures.entered c.add_turn.ensures.places c.add_turn.ensures.alarms c.in_ok-add_turn.ensures.turns c.in_ok-add_turn.ensures.sized))

pub enter_loop-returns-clause-memory : goal.enter_loop-returns-clause-memory
enter_loop-returns-clause-memory g t c =
    let value = g.L.Leaf.value in
    let M = g.L.Leaf.meaning in
    let family = c.args.family.now in
    let r = c.args.rule.now in
    let e = c.enter_lap.new.tables.leaves in
    let z = c.failing.new.tables.leaves in
    let f = c.enter_lap.new.finals in
    known_made value M family r c.behind_loop.result z c.behind_loop.new.tables.leaves f _ c.behind_loop.ensures (known_stays value M family r e z f c.in_ok-failed.ensures.keeps c.in_ok-passed.ensures.memory)

pub enter_lap-enter_list-requires : goal.enter_lap-enter_list-requires
enter_lap-enter_list-requires g t c κs within =
    let value = g.L.Leaf.value in
    let M = g.L.Leaf.meaning in
    let family = c.args.family.now in
    let r = c.args.rule.now in
    let a = c.args.tables.now.leaves in
    let b = c.inside.new.tables.leaves in
    let d = c.enter.new.tables.leaves in
    let f = c.args.finals.now in
    let own = subst (λ p. ArePartsOf family.variables (parts_of p)) c.in-TestFirst.is c.requires.own.parts in
    let loops = subst (λ p. HasLoopsIn (whole family.program.now) (parts_of p)) c.in-TestFirst.is c.requires.own.loops in
    let small = ap (λ p. size_in (parts_of p)) c.in-TestFirst.is in
    let states = c.in_ok-start.ensures.states in
    let memory = known_stays value M family r b d f c.in_ok-start.ensures.keeps (known_stays value M family r a b f c.in_ok-entered.ensures.keeps c.requires.memory) in
    (omega (arith, small), search rules)

pub enter_lap-enter_list-requires-in-TestLast : goal.enter_lap-enter_list-requires-in-TestLast
enter_lap-enter_list-requires-in-TestLast g t c κs within =
    let value = g.L.Leaf.value in
    let M = g.L.Leaf.meaning in
    let family = c.args.family.now in
    let r = c.args.rule.now in
    let a = c.args.tables.now.leaves in
    let b = c.inside.new.tables.leaves in
    let d = c.enter.new.tables.leaves in
    let f = c.args.finals.now in
    let own = subst (λ p. ArePartsOf family.variables (parts_of p)) c.in-TestLast.is c.requires.own.parts in
    let loops = subst (λ p. HasLoopsIn (whole family.program.now) (parts_of p)) c.in-TestLast.is c.requires.own.loops in
    let small = ap (λ p. size_in (parts_of p)) c.in-TestLast.is in
    let states = c.in_ok-start.ensures.states in
    let memory = known_stays value M family r b d f c.in_ok-start.ensures.keeps (known_stays value M family r a b f c.in_ok-entered.ensures.keeps c.requires.memory) in
    (omega (arith, small), search rules)

pub enter_lap-enter_list-requires-in-TestFirst : goal.enter_lap-enter_list-requires-in-TestFirst
enter_lap-enter_list-requires-in-TestFirst g t c κs within =
    let value = g.L.Leaf.value in
    let M = g.L.Leaf.meaning in
    let family = c.args.family.now in
    let r = c.args.rule.now in
    let e = c.enter_list.new.tables.leaves in
    let k = c.going_on.new.tables.leaves in
    let h = c.enter-in-TestFirst.new.tables.leaves in
    let f = c.enter_list.new.finals in
    let own = subst (λ p. ArePartsOf family.variables (parts_of p)) c.in-TestFirst.is c.requires.own.parts in
    let loops = subst (λ p. HasLoopsIn (whole family.program.now) (parts_of p)) c.in-TestFirst.is c.requires.own.loops in
    let small = ap (λ p. size_in (parts_of p)) c.in-TestFirst.is in
    let states = c.in_ok-stepping-in-TestFirst.ensures.states in
    let memory = known_stays value M family r k h f c.in_ok-stepping-in-TestFirst.ensures.keeps (known_stays value M family r e k f c.in_ok-on-in-TestFirst.ensures.keeps c.in_ok-left-in-TestFirst.ensures.memory) in
    (omega (arith, small), search rules)

pub enter_lap-enter-requires-in-TestFirst-clause-state : goal.enter_lap-enter-requires-in-TestFirst-clause-state
enter_lap-enter-requires-in-TestFirst-clause-state g t c = c.in_ok-on-in-TestFirst.ensures.state

pub enter_lap-returns-in_ok-append-in-TestFirst-clause-again : goal.enter_lap-returns-in_ok-append-in-TestFirst-clause-again
enter_lap-returns-in_ok-append-in-TestFirst-clause-again g t c =
    let value = g.L.Leaf.value in
    let M = g.L.Leaf.meaning in
    let family = c.args.family.now in
    let mode = family.options.now.mode in
    let H = heads_in value M family c.args.rule.now (plain c.args.here.now) in
    let i = c.in-TestFirst in
    let l = parts_of c.args.the_loop.now.parts in
    let head = plain c.args.head.now in
    let a = c.args.tables.now.leaves in
    let b = c.inside.new.tables.leaves in
    let d = c.enter.new.tables.leaves in
    let entered = c.in_ok-entered.ensures in
    let start = c.in_ok-start.ensures in
    let left = c.in_ok-left-in-TestFirst.ensures.made in
    let on = c.in_ok-on-in-TestFirst.ensures in
    let x : List Bool → LeafValue = λ v. value (leaf_of head v) in
    let begins : (v : List Bool) → ways_at value c.in_ok-start.start v ≡ enter (inside M mode l (x v)) = λ v. start.at_each v ∙ ap enter (entered.at_each v) in
    let leaves : (v : List Bool) → ways_at value c.in_ok-left-in-TestFirst.left v ≡ body_with M family H l v (x v) = λ v.
    left.at_each v ∙ (ap (passed_with M family H (code i.body.now) v) (begins v)
    ∙ (ap (λ p. passed_with M family H (code i.body.now) v (enter (inside M mode (parts_of p) (x v)))) i.is ∙ ap (λ p. body_with M family H (parts_of p) v (x v)) (sym i.is))) in
    let e = c.enter_list.new.tables.leaves in
    let k = c.going_on.new.tables.leaves in
    let h = c.enter-in-TestFirst.new.tables.leaves in
    let z = c.enter_list-in-TestFirst.new.tables.leaves in
    let stepping = c.in_ok-stepping-in-TestFirst.ensures in
    let made = c.in_ok-made-in-TestFirst.ensures.made in
    let steps : (v : List Bool) → ways_at value c.in_ok-stepping-in-TestFirst.stepping v ≡ enter (going_on M (body_with M family H l v (x v))) = λ v. stepping.at_each v ∙ ap enter (on.at_each v ∙ ap (going_on M) (leaves v)) in
    let later = keeps_both e h z (keeps_both e k h on.keeps stepping.keeps) made.keeps in
    let all = keeps_both a e z (keeps_both a d e (keeps_both a b d entered.keeps start.keeps) left.keeps) later in
    record {
      state = made.states.behind;
      keeps = all;
      at_each = λ v.
          ap (λ (u : Ways). u.behind) (made.at_each v ∙ ap (passed_with M family H (code i.step.now) v) (steps v))
          ∙ (ap (λ p. (passed_with M family H (code i.step.now) v (enter (going_on M (body_with M family H (parts_of p) v (x v))))).behind) i.is ∙ ap (λ p. lap_with M family H (parts_of p) v (x v)) (sym i.is));
    }

pub enter_lap-returns-in_ok-append-in-TestFirst-clause-made : goal.enter_lap-returns-in_ok-append-in-TestFirst-clause-made
enter_lap-returns-in_ok-append-in-TestFirst-clause-made g t c =
    let value = g.L.Leaf.value in
    let M = g.L.Leaf.meaning in
    let family = c.args.family.now in
    let mode = family.options.now.mode in
    let H = heads_in value M family c.args.rule.now (plain c.args.here.now) in
    let i = c.in-TestFirst in
    let l = parts_of c.args.the_loop.now.parts in
    let head = plain c.args.head.now in
    let a = c.args.tables.now.leaves in
    let b = c.inside.new.tables.leaves in
    let d = c.enter.new.tables.leaves in
    let entered = c.in_ok-entered.ensures in
    let start = c.in_ok-start.ensures in
    let left = c.in_ok-left-in-TestFirst.ensures.made in
    let on = c.in_ok-on-in-TestFirst.ensures in
    let x : List Bool → LeafValue = λ v. value (leaf_of head v) in
    let begins : (v : List Bool) → ways_at value c.in_ok-start.start v ≡ enter (inside M mode l (x v)) = λ v. start.at_each v ∙ ap enter (entered.at_each v) in
    let leaves : (v : List Bool) → ways_at value c.in_ok-left-in-TestFirst.left v ≡ body_with M family H l v (x v) = λ v.
    left.at_each v ∙ (ap (passed_with M family H (code i.body.now) v) (begins v)
    ∙ (ap (λ p. passed_with M family H (code i.body.now) v (enter (inside M mode (parts_of p) (x v)))) i.is ∙ ap (λ p. body_with M family H (parts_of p) v (x v)) (sym i.is))) in
    let e = c.enter_list.new.tables.leaves in
    let k = c.going_on.new.tables.leaves in
    let h = c.enter-in-TestFirst.new.tables.leaves in
    let z = c.enter_list-in-TestFirst.new.tables.leaves in
    let stepping = c.in_ok-stepping-in-TestFirst.ensures in
    let made = c.in_ok-made-in-TestFirst.ensures.made in
    let steps : (v : List Bool) → ways_at value c.in_ok-stepping-in-TestFirst.stepping v ≡ enter (going_on M (body_with M family H l v (x v))) = λ v. stepping.at_each v ∙ ap enter (on.at_each v ∙ ap (going_on M) (leaves v)) in
    let later = keeps_both e h z (keeps_both e k h on.keeps stepping.keeps) made.keeps in
    let all = keeps_both a e z (keeps_both a d e (keeps_both a b d entered.keeps start.keeps) left.keeps) later in
    record { states = states_stay value family e z c.in_ok-left-in-TestFirst.left later left.states; keeps = all; at_each = leaves }

pub enter_lap-returns-in_ok-append-in-TestFirst-clause-entered : goal.enter_lap-returns-in_ok-append-in-TestFirst-clause-entered
enter_lap-returns-in_ok-append-in-TestFirst-clause-entered g t c =
    let value = g.L.Leaf.value in
    let M = g.L.Leaf.meaning in
    let family = c.args.family.now in
    let mode = family.options.now.mode in
    let H = heads_in value M family c.args.rule.now (plain c.args.here.now) in
    let i = c.in-TestFirst in
    let l = parts_of c.args.the_loop.now.parts in
    let head = plain c.args.head.now in
    let a = c.args.tables.now.leaves in
    let b = c.inside.new.tables.leaves in
    let d = c.enter.new.tables.leaves in
    let entered = c.in_ok-entered.ensures in
    let start = c.in_ok-start.ensures in
    let left = c.in_ok-left-in-TestFirst.ensures.made in
    let on = c.in_ok-on-in-TestFirst.ensures in
    let x : List Bool → LeafValue = λ v. value (leaf_of head v) in
    let begins : (v : List Bool) → ways_at value c.in_ok-start.start v ≡ enter (inside M mode l (x v)) = λ v. start.at_each v ∙ ap enter (entered.at_each v) in
    let leaves : (v : List Bool) → ways_at value c.in_ok-left-in-TestFirst.left v ≡ body_with M family H l v (x v) = λ v.
    left.at_each v ∙ (ap (passed_with M family H (code i.body.now) v) (begins v)
    ∙ (ap (λ p. passed_with M family H (code i.body.now) v (enter (inside M mode (parts_of p) (x v)))) i.is ∙ ap (λ p. body_with M family H (parts_of p) v (x v)) (sym i.is))) in
    let e = c.enter_list.new.tables.leaves in
    let k = c.going_on.new.tables.leaves in
    let h = c.enter-in-TestFirst.new.tables.leaves in
    let z = c.enter_list-in-TestFirst.new.tables.leaves in
    let stepping = c.in_ok-stepping-in-TestFirst.ensures in
    let made = c.in_ok-made-in-TestFirst.ensures.made in
    let steps : (v : List Bool) → ways_at value c.in_ok-stepping-in-TestFirst.stepping v ≡ enter (going_on M (body_with M family H l v (x v))) = λ v. stepping.at_each v ∙ ap enter (on.at_each v ∙ ap (going_on M) (leaves v)) in
    let later = keeps_both e h z (keeps_both e k h on.keeps stepping.keeps) made.keeps in
    let all = keeps_both a e z (keeps_both a d e (keeps_both a b d entered.keeps start.keeps) left.keeps) later in
    let n = c.new-in_body.result in
    let apart = c.enter_list.new.noted in
    let noted = c.enter_list-in-TestFirst.new.noted in
    let xs = entered_with value M family H (code i.step.now) c.in_ok-stepping-in-TestFirst.stepping in
    let ys = entered_with value M family H (code i.body.now) c.in_ok-start.start in
    entered_then value M family c.args.noted.now noted c.append.new.self xs ys (entered_lap value M family H l head)
    (λ v.
    let ts = truths_in family.choices.now v in
    let by : Ways → Ways → List Visit = λ u w. visits_at M mode ts (H v) (code i.step.now) u ++ visits_at M mode ts (H v) (code i.body.now) w in
    ap (λ u. by u (ways_at value c.in_ok-start.start v)) (steps v) ∙ (ap (by (enter (going_on M (body_with M family H l v (x v))))) (begins v)
    ∙ (ap (λ p. by (enter (going_on M (body_with M family H (parts_of p) v (x v)))) (enter (inside M mode (parts_of p) (x v)))) i.is ∙ ap (λ p. visits_in M mode ts (H v) (parts_of p) (x v)) (sym i.is))))
    c.in_ok-made-in-TestFirst.ensures.entered
    (entered_behind value M family noted n apart c.append.new.self ys c.new-in_body.ensures.places c.new-in_body.ensures.alarms c.new-in_body.ensures.turns c.in_ok-left-in-TestFirst.ensures.entered
    c.in_ok-append-in-TestFirst.ensures.places c.in_ok-append-in-TestFirst.ensures.alarms c.in_ok-append-in-TestFirst.ensures.turns)

pub enter_lap-enter_test-requires-clause-state : goal.enter_lap-enter_test-requires-clause-state
enter_lap-enter_test-requires-clause-state g t c = c.in_ok-on-in-TestLast.ensures.state

pub enter_lap-enter_test-requires-clause-fit : goal.enter_lap-enter_test-requires-clause-fit
enter_lap-enter_test-requires-clause-fit g t c = (subst (λ p. ArePartsOf c.args.family.now.variables (parts_of p)) c.in-TestLast.is c.requires.own.parts).0

pub enter_lap-stepped-requires-clause-state : goal.enter_lap-stepped-requires-clause-state
enter_lap-stepped-requires-clause-state g t c =
    let k = c.going_on-in-TestLast.new.tables.leaves in
    let m = c.enter_test.new.tables.leaves in
    state_stays g.L.Leaf.value c.args.family.now k m (numbered c.in_ok-on-in-TestLast.on) (keeps_same k m c.in_ok-enter_test-in-TestLast.ensures.same) c.in_ok-on-in-TestLast.ensures.state

pub enter_lap-stepped-requires-clause-step : goal.enter_lap-stepped-requires-clause-step
enter_lap-stepped-requires-clause-step g t c = (subst (λ p. ArePartsOf c.args.family.now.variables (parts_of p)) c.in-TestLast.is c.requires.own.parts).0

pub enter_lap-returns-in_ok-again-in-TestLast-clause-again : goal.enter_lap-returns-in_ok-again-in-TestLast-clause-again
enter_lap-returns-in_ok-again-in-TestLast-clause-again g t c =
    let value = g.L.Leaf.value in
    let M = g.L.Leaf.meaning in
    let family = c.args.family.now in
    let mode = family.options.now.mode in
    let H = heads_in value M family c.args.rule.now (plain c.args.here.now) in
    let i = c.in-TestLast in
    let l = parts_of c.args.the_loop.now.parts in
    let head = plain c.args.head.now in
    let a = c.args.tables.now.leaves in
    let b = c.inside.new.tables.leaves in
    let d = c.enter.new.tables.leaves in
    let entered = c.in_ok-entered.ensures in
    let start = c.in_ok-start.ensures in
    let left = c.in_ok-left-in-TestLast.ensures.made in
    let on = c.in_ok-on-in-TestLast.ensures in
    let x : List Bool → LeafValue = λ v. value (leaf_of head v) in
    let begins : (v : List Bool) → ways_at value c.in_ok-start.start v ≡ enter (inside M mode l (x v)) = λ v. start.at_each v ∙ ap enter (entered.at_each v) in
    let leaves : (v : List Bool) → ways_at value c.in_ok-left-in-TestLast.left v ≡ body_with M family H l v (x v) = λ v.
    left.at_each v ∙ (ap (passed_with M family H (code i.body.now) v) (begins v)
    ∙ (ap (λ p. passed_with M family H (code i.body.now) v (enter (inside M mode (parts_of p) (x v)))) i.is ∙ ap (λ p. body_with M family H (parts_of p) v (x v)) (sym i.is))) in
    let e = c.enter_list-in-TestLast.new.tables.leaves in
    let k = c.going_on-in-TestLast.new.tables.leaves in
    let m = c.enter_test.new.tables.leaves in
    let z = c.stepped.new.tables.leaves in
    let test = term i.test.now in
    let again = c.in_ok-again-in-TestLast.ensures in
    let goes : (v : List Bool) → value (leaf_of (plain c.in_ok-on-in-TestLast.on) v) ≡ going_on M (body_with M family H l v (x v)) = λ v. on.at_each v ∙ ap (going_on M) (leaves v) in
    let later = keeps_both e m z (keeps_both e k m on.keeps (keeps_same k m c.in_ok-enter_test-in-TestLast.ensures.same)) again.keeps in
    let all = keeps_both a e z (keeps_both a d e (keeps_both a b d entered.keeps start.keeps) left.keeps) later in
    record {
      state = again.state;
      keeps = all;
      at_each = λ v.
          again.at_each v ∙ (ap (assumed M mode test true) (goes v)
          ∙ (ap (λ p. assumed M mode test true (going_on M (body_with M family H (parts_of p) v (x v)))) i.is ∙ ap (λ p. lap_with M family H (parts_of p) v (x v)) (sym i.is)));
    }

pub enter_lap-returns-in_ok-again-in-TestLast-clause-made : goal.enter_lap-returns-in_ok-again-in-TestLast-clause-made
enter_lap-returns-in_ok-again-in-TestLast-clause-made g t c =
    let value = g.L.Leaf.value in
    let M = g.L.Leaf.meaning in
    let family = c.args.family.now in
    let mode = family.options.now.mode in
    let H = heads_in value M family c.args.rule.now (plain c.args.here.now) in
    let i = c.in-TestLast in
    let l = parts_of c.args.the_loop.now.parts in
    let head = plain c.args.head.now in
    let a = c.args.tables.now.leaves in
    let b = c.inside.new.tables.leaves in
    let d = c.enter.new.tables.leaves in
    let entered = c.in_ok-entered.ensures in
    let start = c.in_ok-start.ensures in
    let left = c.in_ok-left-in-TestLast.ensures.made in
    let on = c.in_ok-on-in-TestLast.ensures in
    let x : List Bool → LeafValue = λ v. value (leaf_of head v) in
    let begins : (v : List Bool) → ways_at value c.in_ok-start.start v ≡ enter (inside M mode l (x v)) = λ v. start.at_each v ∙ ap enter (entered.at_each v) in
    let leaves : (v : List Bool) → ways_at value c.in_ok-left-in-TestLast.left v ≡ body_with M family H l v (x v) = λ v.
    left.at_each v ∙ (ap (passed_with M family H (code i.body.now) v) (begins v)
    ∙ (ap (λ p. passed_with M family H (code i.body.now) v (enter (inside M mode (parts_of p) (x v)))) i.is ∙ ap (λ p. body_with M family H (parts_of p) v (x v)) (sym i.is))) in
    let e = c.enter_list-in-TestLast.new.tables.leaves in
    let k = c.going_on-in-TestLast.new.tables.leaves in
    let m = c.enter_test.new.tables.leaves in
    let z = c.stepped.new.tables.leaves in
    let test = term i.test.now in
    let again = c.in_ok-again-in-TestLast.ensures in
    let goes : (v : List Bool) → value (leaf_of (plain c.in_ok-on-in-TestLast.on) v) ≡ going_on M (body_with M family H l v (x v)) = λ v. on.at_each v ∙ ap (going_on M) (leaves v) in
    let later = keeps_both e m z (keeps_both e k m on.keeps (keeps_same k m c.in_ok-enter_test-in-TestLast.ensures.same)) again.keeps in
    let all = keeps_both a e z (keeps_both a d e (keeps_both a b d entered.keeps start.keeps) left.keeps) later in
    record { states = states_stay value family e z c.in_ok-left-in-TestLast.left later left.states; keeps = all; at_each = leaves }

pub enter_lap-returns-in_ok-again-in-TestLast-clause-entered : goal.enter_lap-returns-in_ok-again-in-TestLast-clause-entered
enter_lap-returns-in_ok-again-in-TestLast-clause-entered g t c =
    let value = g.L.Leaf.value in
    let M = g.L.Leaf.meaning in
    let family = c.args.family.now in
    let mode = family.options.now.mode in
    let H = heads_in value M family c.args.rule.now (plain c.args.here.now) in
    let i = c.in-TestLast in
    let l = parts_of c.args.the_loop.now.parts in
    let head = plain c.args.head.now in
    let a = c.args.tables.now.leaves in
    let b = c.inside.new.tables.leaves in
    let d = c.enter.new.tables.leaves in
    let entered = c.in_ok-entered.ensures in
    let start = c.in_ok-start.ensures in
    let left = c.in_ok-left-in-TestLast.ensures.made in
    let on = c.in_ok-on-in-TestLast.ensures in
    let x : List Bool → LeafValue = λ v. value (leaf_of head v) in
    let begins : (v : List Bool) → ways_at value c.in_ok-start.start v ≡ enter (inside M mode l (x v)) = λ v. start.at_each v ∙ ap enter (entered.at_each v) in
    let leaves : (v : List Bool) → ways_at value c.in_ok-left-in-TestLast.left v ≡ body_with M family H l v (x v) = λ v.
    left.at_each v ∙ (ap (passed_with M family H (code i.body.now) v) (begins v)
    ∙ (ap (λ p. passed_with M family H (code i.body.now) v (enter (inside M mode (parts_of p) (x v)))) i.is ∙ ap (λ p. body_with M family H (parts_of p) v (x v)) (sym i.is))) in
    let e = c.enter_list-in-TestLast.new.tables.leaves in
    let k = c.going_on-in-TestLast.new.tables.leaves in
    let m = c.enter_test.new.tables.leaves in
    let z = c.stepped.new.tables.leaves in
    let test = term i.test.now in
    let again = c.in_ok-again-in-TestLast.ensures in
    let goes : (v : List Bool) → value (leaf_of (plain c.in_ok-on-in-TestLast.on) v) ≡ going_on M (body_with M family H l v (x v)) = λ v. on.at_each v ∙ ap (going_on M) (leaves v) in
    let later = keeps_both e m z (keeps_both e k m on.keeps (keeps_same k m c.in_ok-enter_test-in-TestLast.ensures.same)) again.keeps in
    let all = keeps_both a e z (keeps_both a d e (keeps_both a b d entered.keeps start.keeps) left.keeps) later in
    let noted = c.enter_list-in-TestLast.new.noted in
    let ys = entered_with value M family H (code i.body.now) c.in_ok-start.start in
    let on_test : List Bool → LeafValue → List Visit = λ v y. plain_visit i.test_place (If i.test_place test Done Done Done) y ∷ [] in
    entered_then value M family c.args.noted.now noted c.enter_test.new.noted ys (λ v. on_test v (value (leaf_of (plain c.in_ok-on-in-TestLast.on) v))) (entered_lap value M family H l head)
    (λ v.
    let ts = truths_in family.choices.now v in
    let by : Ways → LeafValue → List Visit = λ w y. visits_at M mode ts (H v) (code i.body.now) w ++ on_test v y in
    ap (λ u. by u (value (leaf_of (plain c.in_ok-on-in-TestLast.on) v))) (begins v) ∙ (ap (by (enter (inside M mode l (x v)))) (goes v)
    ∙ (ap (λ p. by (enter (inside M mode (parts_of p) (x v))) (going_on M (body_with M family H (parts_of p) v (x v)))) i.is ∙ ap (λ p. visits_in M mode ts (H v) (parts_of p) (x v)) (sym i.is))))
    c.in_ok-left-in-TestLast.ensures.entered c.in_ok-enter_test-in-TestLast.ensures.entered

pub enter_lap-returns-in_ok-again-in-TestLast-clause-memory : goal.enter_lap-returns-in_ok-again-in-TestLast-clause-memory
enter_lap-returns-in_ok-again-in-TestLast-clause-memory g t c =
    let value = g.L.Leaf.value in
    let M = g.L.Leaf.meaning in
    let family = c.args.family.now in
    let r = c.args.rule.now in
    let e = c.enter_list-in-TestLast.new.tables.leaves in
    let k = c.going_on-in-TestLast.new.tables.leaves in
    let m = c.enter_test.new.tables.leaves in
    let f = c.enter_list-in-TestLast.new.finals in
    known_stays value M family r m c.stepped.new.tables.leaves f c.in_ok-again-in-TestLast.ensures.keeps (known_same value M family r k m f c.in_ok-enter_test-in-TestLast.ensures.same (known_stays value M family r e k f c.in_ok-on-in-TestLast.ensures.keeps c.in_ok-left-in-TestLast.ensures.memory))
