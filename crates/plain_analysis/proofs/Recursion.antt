-- The heads of an analysis: leaves of the kind, and what enters their loops and comes from their laps is below them.
use Rattle.std.proofs.Common.{◌≡◌, ℕ, zero, suc, ◌+◌, Bool, true, false, if◌then◌else◌, nat_lt, List, refl, ap, sym, ◌∙◌, ℤ, inl, inr}
use Rattle.fam_outer.specs.declared.faults.Place.{Place}
use Rattle.c_tree.specs.Tree.{Term, Code, Done, Assign, Input, Assert, If, While, Do, Leave, Block, Skip, Cond}
use Rattle.c_tree.specs.Fit.{IsTermOf, IsCodeOf}
use Rattle.leaf_domain.specs.Leaves.{LeafValue, LeafMeaning, LeafLaws, IsLeafLike, nothing_of, is_nothing_of}
use Rattle.leaf_domain.specs.Soundness.{TransferAnswers}
use Rattle.leaf_domain.proofs.AtNothing.{nothing_is}
use Rattle.plain_analysis.specs.declared.options.Options.{Options}
use Rattle.plain_analysis.specs.Loops.{turn_of, round_of, rounds_of, round_count, narrowing_of, narrowings_of, widened_leaf, final_leaf}
use Rattle.plain_analysis.specs.Promises.{LoopsSettle, FinalsAreInductive, IsHeld, AreHeld}
use Rattle.plain_analysis.specs.Stated.{ArePartsOf}
use Rattle.plain_analysis.specs.Statements.{Heads, LoopParts, TestFirst, TestLast, through_body, final_heads, after_of, lap_of}
use Rattle.plain_analysis.specs.Ways.{Ways}
use Rattle.plain_analysis.proofs.Kept.{IsLeaf, AreLeaves, answered, like, alike, join_leaf, onto_leaves, enter_leaves, going_on_leaf, loop_leaves, assumed_leaf, assigned_leaf, forgotten_leaf, leave_kept, passed_kept}
use Rattle.plain_analysis.proofs.Nothing.{nothing_value, lap_nothing}
use Rattle.plain_analysis.proofs.Settles.{first_phase_settles}

-- a function from leaves of n variables to such leaves
pub Keeps : LeafMeaning → ℕ → (LeafValue → LeafValue) → Type 0
Keeps M n f = (x : LeafValue) → IsLeaf M n x → IsLeaf M n (f x)

-- ---- a loop with any lap

module _ (M : LeafMeaning) (laws : LeafLaws M) (n : ℕ) where
  join_nothings : (a b : LeafValue) → IsLeaf M n a → IsLeaf M n b → is_nothing_of a ≡ true → is_nothing_of b ≡ true → is_nothing_of (M.join a b) ≡ true
  join_nothings a b h k e f =
      ap (λ v. is_nothing_of (M.join v b)) (nothing_is a.variables a.content e ∙ ap nothing_of (h.count ∙ sym k.count)) ∙ ap is_nothing_of (laws.join_nothing b) ∙ f

  module _ (ts : List ℤ) (delay : ℕ) (G : LeafValue → LeafValue) (keeps : Keeps M n G) where
    round_keeps : (k : ℕ) → Keeps M n (round_of M ts delay G k)
    unfolding Keeps
    round_keeps k x h = by_tests (M.leq (G x) x) (nat_lt k delay)
      where
        by_tests : (t u : Bool) → IsLeaf M n (if t then x else (if u then M.join x (G x) else M.widen ts x (G x)))
        by_tests true u = h
        by_tests false true = join_leaf M laws n x (G x) h (keeps x h)
        by_tests false false = answered M laws n x _ h (laws.widen_answers ts x (G x) (alike M laws n x (G x) h (keeps x h)))

    rounds_keep : (m k : ℕ) → Keeps M n (rounds_of M ts delay G m k)
    unfolding Keeps
    rounds_keep zero k x h = h
    rounds_keep (suc m) k x h = rounds_keep m (k + 1) (round_of M ts delay G k x) (round_keeps k x h)

    narrowing_keeps : Keeps M n (narrowing_of M ts G)
    unfolding Keeps
    narrowing_keeps x h = by_test (M.leq (G (M.narrow ts x (G x))) (M.narrow ts x (G x)))
      where
        by_test : (t : Bool) → IsLeaf M n (if t then M.narrow ts x (G x) else x)
        by_test true = answered M laws n x _ h (laws.narrow_answers ts x (G x) (alike M laws n x (G x) h (keeps x h)))
        by_test false = h

    narrowings_keep : (m : ℕ) → Keeps M n (narrowings_of M ts G m)
    unfolding Keeps
    narrowings_keep zero x h = h
    narrowings_keep (suc m) x h = narrowings_keep m (narrowing_of M ts G x) (narrowing_keeps x h)

    -- narrowing keeps a stable leaf stable
    narrowings_settle : (m : ℕ) (x : LeafValue) → M.leq (G x) x ≡ true → M.leq (G (narrowings_of M ts G m x)) (narrowings_of M ts G m x) ≡ true
    narrowings_settle zero x e = e
    narrowings_settle (suc m) x e = narrowings_settle m (narrowing_of M ts G x) (by_test (M.leq (G (M.narrow ts x (G x))) (M.narrow ts x (G x))) refl)
      where
        by_test : (t : Bool) → M.leq (G (M.narrow ts x (G x))) (M.narrow ts x (G x)) ≡ t → M.leq (G (if t then M.narrow ts x (G x) else x)) (if t then M.narrow ts x (G x) else x) ≡ true
        by_test true f = f
        by_test false f = e

  module _ (o : Options) (f : LeafValue → LeafValue) (keeps : Keeps M n f) (d : LeafValue) (l : IsLeaf M n d) where
    abbrev turn : LeafValue → LeafValue
    turn = turn_of M f d

    turn_keeps : Keeps M n turn
    unfolding Keeps
    turn_keeps x h = join_leaf M laws n d (f x) l (keeps x h)

    abbrev widened : LeafValue
    widened = widened_leaf M o.thresholds o.delay turn d

    pub final_is_leaf : IsLeaf M n (final_leaf M o f d)
    unfolding Keeps
    final_is_leaf = narrowings_keep o.thresholds o.delay turn turn_keeps o.narrow widened (rounds_keep o.thresholds o.delay turn turn_keeps (round_count M o.thresholds o.delay d.variables) 0 d l)

    module _ (strict : is_nothing_of d ≡ true → is_nothing_of (f d) ≡ true) where
      pub widened_settles : M.leq (turn widened) widened ≡ true
      unfolding Keeps
      widened_settles =
          first_phase_settles M laws o.thresholds n o.delay turn
          (record { answers = λ x h c. let i : IsLeaf M n x = record { valid = h; count = c } in like M laws n x (turn x) i (turn_keeps x i) })
          d l.valid l.count (λ e. join_nothings d (f d) l (keeps d l) e (strict e))

      pub final_settles : M.leq (turn (final_leaf M o f d)) (final_leaf M o f d) ≡ true
      final_settles = narrowings_settle o.thresholds o.delay turn turn_keeps o.narrow widened widened_settles

      pub final_is_held : IsHeld M f d (final_leaf M o f d)
      unfolding Keeps
      final_is_held =
          let x = final_leaf M o f d in
          let b = keeps x final_is_leaf in
          let joined = alike M laws n d (f x) l b in
          let compared = alike M laws n (turn x) x (turn_keeps x final_is_leaf) final_is_leaf in
          record {
            answers = like M laws n d x l final_is_leaf;
            entered = λ s p. laws.leq_holds (turn x) x s compared final_settles (laws.join_holds d (f x) s joined (inl p));
            again = λ s p. laws.leq_holds (turn x) x s compared final_settles (laws.join_holds d (f x) s joined (inr p));
          }

-- ---- the loops of an analysis

module _ (M : LeafMeaning) (laws : LeafLaws M) (o : Options) (A : TransferAnswers M o.mode) where
  abbrev finals : Heads
  finals = final_heads M o

  -- a lap makes Nothing of Nothing
  strict : (l : LoopParts) (d : LeafValue) → M.valid d → is_nothing_of d ≡ true → is_nothing_of (lap_of M o l d) ≡ true
  strict l d h e =
      ap (λ v. is_nothing_of (lap_of M o l v)) (nothing_value d d.variables e refl)
      ∙ ap is_nothing_of (lap_nothing M laws o A d.variables (laws.valid_few d h) l)

  module _ (n : ℕ) where
    -- statements answer leaves
    record Answers (c : Code) : Type 0 where
      fit : IsCodeOf n c
      held : (w : Ways) → AreLeaves M n w → AreHeld M o.mode finals c w

    answer : (c : Code) (w : Ways) → Answers c → AreLeaves M n w → AreLeaves M n (after_of M o c w)
    answer c w a h = (passed_kept M laws o.mode A n finals c w h a.fit (a.held w h)).leaves

    first_body : (e : Term) (step body : Code) (x : LeafValue) → IsTermOf n e → Answers body → IsLeaf M n x → AreLeaves M n (through_body M o.mode finals (TestFirst e step body) x)
    first_body e step body x t b l = answer body _ b (enter_leaves M laws n _ (assumed_leaf M laws o.mode A n e true x l t))

    first_keeps : (e : Term) (step body : Code) → IsTermOf n e → Answers step → Answers body → Keeps M n (lap_of M o (TestFirst e step body))
    unfolding Keeps
    first_keeps e step body t s b x l = (answer step _ s (enter_leaves M laws n _ (going_on_leaf M laws n _ (first_body e step body x t b l)))).behind

    last_body : (body : Code) (at : Place) (e : Term) (x : LeafValue) → Answers body → IsLeaf M n x → AreLeaves M n (through_body M o.mode finals (TestLast body at e) x)
    last_body body at e x b l = answer body _ b (enter_leaves M laws n x l)

    last_keeps : (body : Code) (at : Place) (e : Term) → IsTermOf n e → Answers body → Keeps M n (lap_of M o (TestLast body at e))
    unfolding Keeps
    last_keeps body at e t b x l = assumed_leaf M laws o.mode A n e true _ (going_on_leaf M laws n _ (last_body body at e x b l)) t

    made : (c : Code) → IsCodeOf n c → ((w : Ways) → AreLeaves M n w → AreHeld M o.mode finals c w) → Answers c
    made c t h = record { fit = t; held = h }

    pub final_heads_hold : (c : Code) (w : Ways) → AreLeaves M n w → IsCodeOf n c → AreHeld M o.mode (final_heads M o) c w
    final_heads_hold Done w h t = tt
    final_heads_hold (Assign place x e rest) w h t = final_heads_hold rest _ (onto_leaves M laws n w _ h (assigned_leaf M laws o.mode A n x e w.behind h.behind t.0 t.1)) t.2
    final_heads_hold (Input place x rest) w h t = final_heads_hold rest _ (onto_leaves M laws n w _ h (forgotten_leaf M laws o.mode A n x w.behind h.behind t.0)) t.1
    final_heads_hold (Assert place e rest) w h t = final_heads_hold rest _ (onto_leaves M laws n w _ h (assumed_leaf M laws o.mode A n e true w.behind h.behind t.0)) t.1
    final_heads_hold (If place e p q rest) w h t =
        let yes_in = onto_leaves M laws n w _ h (assumed_leaf M laws o.mode A n e true w.behind h.behind t.0) in
        let a = answer p _ (made p t.1 (λ w h. final_heads_hold p w h t.1)) yes_in in
        let no_in = onto_leaves M laws n _ _ a (assumed_leaf M laws o.mode A n e false w.behind h.behind t.0) in
        let b = answer q _ (made q t.2 (λ w h. final_heads_hold q w h t.2)) no_in in
        (final_heads_hold p _ yes_in t.1, final_heads_hold q _ no_in t.2, final_heads_hold rest _ (onto_leaves M laws n _ _ b (join_leaf M laws n _ _ a.behind b.behind)) t.3)
    final_heads_hold (While place e step body rest) w h t =
        let l = TestFirst e step body in
        let keeps = first_keeps e step body t.0 (made step t.1 (λ w h. final_heads_hold step w h t.1)) (made body t.2 (λ w h. final_heads_hold body w h t.2)) in
        let i = final_is_leaf M laws n o (lap_of M o l) keeps w.behind h.behind in
        let inside = enter_leaves M laws n _ (assumed_leaf M laws o.mode A n e true _ i t.0) in
        let b = first_body e step body _ t.0 (made body t.2 (λ w h. final_heads_hold body w h t.2)) i in (
          final_is_held M laws n o (lap_of M o l) keeps w.behind h.behind (strict l w.behind h.behind.valid),
          final_heads_hold step _ (enter_leaves M laws n _ (going_on_leaf M laws n _ b)) t.1,
          final_heads_hold body _ inside t.2,
          final_heads_hold rest _ (loop_leaves M laws n w _ _ h b (assumed_leaf M laws o.mode A n e false _ i t.0)) t.3,
        )
    final_heads_hold (Do place body at e rest) w h t =
        let l = TestLast body at e in
        let keeps = last_keeps body at e t.0 (made body t.1 (λ w h. final_heads_hold body w h t.1)) in
        let i = final_is_leaf M laws n o (lap_of M o l) keeps w.behind h.behind in
        let b = last_body body at e _ (made body t.1 (λ w h. final_heads_hold body w h t.1)) i in (
          final_is_held M laws n o (lap_of M o l) keeps w.behind h.behind (strict l w.behind h.behind.valid),
          final_heads_hold body _ (enter_leaves M laws n _ i) t.1,
          final_heads_hold rest _ (loop_leaves M laws n w _ _ h b (assumed_leaf M laws o.mode A n e false _ (going_on_leaf M laws n _ b) t.0)) t.2,
        )
    final_heads_hold (Leave place jump rest) w h t = final_heads_hold rest _ (leave_kept M laws o.mode A n jump w h t.0).leaves t.1
    final_heads_hold (Block place body rest) w h t = (final_heads_hold body w h t.0, final_heads_hold rest _ (answer body w (made body t.0 (λ w h. final_heads_hold body w h t.0)) h) t.1)
    final_heads_hold (Skip place rest) w h t = final_heads_hold rest w h t
    final_heads_hold (Cond number p q rest) w h t = final_heads_hold rest w h t.2

    part : (c : Code) → IsCodeOf n c → Answers c
    part c t = made c t (λ w h. final_heads_hold c w h t)

    pub after_answers : (c : Code) (w : Ways) → AreLeaves M n w → IsCodeOf n c → AreLeaves M n (after_of M o c w)
    after_answers c w h t = answer c w (part c t) h

    pub body_answers : (l : LoopParts) (x : LeafValue) → IsLeaf M n x → ArePartsOf n l → AreLeaves M n (through_body M o.mode (final_heads M o) l x)
    body_answers (TestFirst e step body) x i t = first_body e step body x t.0 (part body t.2) i
    body_answers (TestLast body at e) x i t = last_body body at e x (part body t.1) i

    pub lap_keeps : (l : LoopParts) → ArePartsOf n l → Keeps M n (lap_of M o l)
    lap_keeps (TestFirst e step body) t = first_keeps e step body t.0 (part step t.1) (part body t.2)
    lap_keeps (TestLast body at e) t = last_keeps body at e t.0 (part body t.1)

  own : (d : LeafValue) → M.valid d → IsLeaf M d.variables d
  own d h = record { valid = h; count = refl }

  -- the final leaf of a loop
  pub final_of_code : (l : LoopParts) (v : LeafValue) → M.valid v → ArePartsOf v.variables l → IsLeafLike M v (final_leaf M o (lap_of M o l) v)
  final_of_code l v h t = like M laws v.variables v _ (own v h) (final_is_leaf M laws v.variables o (lap_of M o l) (lap_keeps v.variables l t) v (own v h))

  pub loops_settle : LoopsSettle M o
  loops_settle l d h t = widened_settles M laws d.variables o (lap_of M o l) (lap_keeps d.variables l t) d (own d h) (strict l d h)

  pub finals_are_inductive : FinalsAreInductive M o
  finals_are_inductive l d h t = final_settles M laws d.variables o (lap_of M o l) (lap_keeps d.variables l t) d (own d h) (strict l d h)
