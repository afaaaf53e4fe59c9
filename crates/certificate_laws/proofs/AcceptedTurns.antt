-- The loops of an analysis: each is inductive, and its head is the leaf at its place.
use Rattle.std.proofs.Common.{◌≡◌, ℕ, true, false, List, ◌∷◌, ◌++◌, Some, ap, sym, subst}
use Rattle.std.specs.List.{AllByRecursion}
use Rattle.fam_outer.specs.declared.faults.Place.{Place}
use Rattle.c_tree.specs.declared.tree.Mode.{Mode}
use Rattle.c_tree.specs.Fit.{IsCodeOf}
use Rattle.c_tree.specs.Tree.{Code, Done, Assign, Input, Assert, If, While, Do, Leave, Block, Skip, Cond}
use Rattle.leaf_domain.specs.Leaves.{LeafValue, LeafMeaning, LeafLaws}
use Rattle.leaf_domain.specs.Soundness.{TransferAnswers}
use Rattle.leaf_domain.specs.Transfer.{assumed, assigned, forgotten}
use Rattle.plain_analysis.specs.declared.options.Options.{Options}
use Rattle.plain_analysis.specs.Loops.{turn_of, final_leaf}
use Rattle.plain_analysis.specs.Places.{entry_in, leaf_or}
use Rattle.plain_analysis.specs.Stated.{ArePartsOf}
use Rattle.plain_analysis.specs.Statements.{Heads, LoopParts, TestFirst, TestLast, Entry, passed, chosen, through_body, head_by, behind_by, entries_by, final_heads, lap_of}
use Rattle.plain_analysis.specs.Ways.{Ways, onto, enter, leave_by, going_on}
use Rattle.plain_analysis.proofs.Kept.{IsLeaf, AreLeaves, like, alike, join_leaf, onto_leaves, enter_leaves, going_on_leaf, loop_leaves, assumed_leaf, assigned_leaf, forgotten_leaf, leave_kept}
use Rattle.plain_analysis.proofs.Located.{IsListed}
use Rattle.plain_analysis.proofs.Recursion.{final_is_leaf, lap_keeps, body_answers, after_answers, finals_are_inductive}
use Rattle.lifted_analysis.specs.Turns.{Turn, turns_by, is_inductive}
use Rattle.certificate_laws.specs.Accepted.{AreBelowJoins}
use Rattle.certificate_laws.proofs.AcceptedLists.{all_left, all_right, all_both, both_true}

-- ---- final leaves

module _ (M : LeafMeaning) (laws : LeafLaws M) (o : Options) (A : TransferAnswers M o.mode) (joins : AreBelowJoins M) (n : ℕ) where
  -- a loop's head has n variables, and the loop is inductive
  pub record IsGood (t : Turn) : Type 0 where
    pub head : IsLeaf M n t.head
    pub inductive : is_inductive M t ≡ true

  head_leaf : (l : LoopParts) (v : LeafValue) → IsLeaf M n v → ArePartsOf n l → IsLeaf M n (final_leaf M o (lap_of M o l) v)
  head_leaf l v h t = final_is_leaf M laws n o (lap_of M o l) (lap_keeps M laws o A n l t) v h

  again_leaf : (l : LoopParts) (x : LeafValue) → IsLeaf M n x → ArePartsOf n l → IsLeaf M n (lap_of M o l x)
  again_leaf (TestFirst e step body) x i t =
      let b = body_answers M laws o A n (TestFirst e step body) x i t in
      (after_answers M laws o A n step _ (enter_leaves M laws n _ (going_on_leaf M laws n _ b)) t.1).behind
  again_leaf (TestLast body at e) x i t =
      let b = body_answers M laws o A n (TestLast body at e) x i t in
      assumed_leaf M laws o.mode A n e true _ (going_on_leaf M laws n _ b) t.0

  loop_good : (place : Place) (l : LoopParts) (v : LeafValue) → IsLeaf M n v → ArePartsOf n l
      → (let x = final_leaf M o (lap_of M o l) v in
      IsGood (record { place = place; entered = v; head = x; again = lap_of M o l x }))
  loop_good place l v h t =
      let x = final_leaf M o (lap_of M o l) v in
      let y = lap_of M o l x in
      let i = head_leaf l v h t in
      let again = again_leaf l x i t in
      let settled : M.leq (turn_of M (lap_of M o l) v x) x ≡ true = finals_are_inductive M laws o A l v h.valid (subst (λ m. ArePartsOf m l) (sym h.count) t) in
      let parts = joins v y x (alike M laws n v y h again) (like M laws n v x h i) settled in
      record { head = i; inductive = both_true _ _ parts.0 parts.1 }

  pub good_turns : (c : Code) (w : Ways) → AreLeaves M n w → IsCodeOf n c → AllByRecursion IsGood (turns_by M o.mode (final_heads M o) c w)
  good_turns Done w h t = tt
  good_turns (Assign place x e rest) w h t = good_turns rest _ (onto_leaves M laws n w _ h (assigned_leaf M laws o.mode A n x e w.behind h.behind t.0 t.1)) t.2
  good_turns (Input place x rest) w h t = good_turns rest _ (onto_leaves M laws n w _ h (forgotten_leaf M laws o.mode A n x w.behind h.behind t.0)) t.1
  good_turns (Assert place e rest) w h t = good_turns rest _ (onto_leaves M laws n w _ h (assumed_leaf M laws o.mode A n e true w.behind h.behind t.0)) t.1
  good_turns (If place e p q rest) w h t =
      let yes = onto w (assumed M o.mode e true w.behind) in
      let yes_in = onto_leaves M laws n w _ h (assumed_leaf M laws o.mode A n e true w.behind h.behind t.0) in
      let a = after_answers M laws o A n p yes yes_in t.1 in
      let no = onto (passed M o.mode (final_heads M o) p yes) (assumed M o.mode e false w.behind) in
      let no_in = onto_leaves M laws n _ _ a (assumed_leaf M laws o.mode A n e false w.behind h.behind t.0) in
      let b = after_answers M laws o A n q no no_in t.2 in
      all_both IsGood _ _ (good_turns p yes yes_in t.1)
      (all_both IsGood _ _ (good_turns q no no_in t.2)
      (good_turns rest (chosen M o.mode (final_heads M o) e p q w) (onto_leaves M laws n _ _ b (join_leaf M laws n _ _ a.behind b.behind)) t.3))
  good_turns (While place e step body rest) w h t =
      let l = TestFirst e step body in
      let parts : ArePartsOf n l = (t.0, t.1, t.2, t.4) in
      let x = final_leaf M o (lap_of M o l) w.behind in
      let i = head_leaf l w.behind h.behind parts in
      let b = body_answers M laws o A n l x i parts in (
        loop_good place l w.behind h.behind parts,
        all_both IsGood _ _ (good_turns step _ (enter_leaves M laws n _ (going_on_leaf M laws n _ b)) t.1)
            (all_both IsGood _ _ (good_turns body _ (enter_leaves M laws n _ (assumed_leaf M laws o.mode A n e true x i t.0)) t.2)
            (good_turns rest (behind_by M o.mode (final_heads M o) l w x) (loop_leaves M laws n w _ _ h b (assumed_leaf M laws o.mode A n e false x i t.0)) t.3)),
      )
  good_turns (Do place body at e rest) w h t =
      let l = TestLast body at e in
      let parts : ArePartsOf n l = (t.0, t.1) in
      let x = final_leaf M o (lap_of M o l) w.behind in
      let i = head_leaf l w.behind h.behind parts in
      let b = body_answers M laws o A n l x i parts in (
        loop_good place l w.behind h.behind parts,
        all_both IsGood _ _ (good_turns body _ (enter_leaves M laws n x i) t.1)
            (good_turns rest (behind_by M o.mode (final_heads M o) l w x)
            (loop_leaves M laws n w _ _ h b (assumed_leaf M laws o.mode A n e false _ (going_on_leaf M laws n _ b) t.0)) t.2),
      )
  good_turns (Leave place jump rest) w h t = good_turns rest _ (leave_kept M laws o.mode A n jump w h t.0).leaves t.1
  good_turns (Block place body rest) w h t =
      all_both IsGood _ _ (good_turns body w h t.0) (good_turns rest (passed M o.mode (final_heads M o) body w) (after_answers M laws o A n body w h t.0) t.1)
  good_turns (Skip place rest) w h t = good_turns rest w h t
  good_turns (Cond number p q rest) w h t = good_turns rest w h t.2

-- ---- heads and entries

module _ (M : LeafMeaning) (mode : Mode) (H : Heads) where
  -- the head is the leaf of the entry that is found at the loop's place
  abbrev pub IsFoundIn : List Entry → Turn → Type 0
  IsFoundIn all t = (d : LeafValue) → leaf_or d (entry_in all t.place) ≡ t.head

  abbrev IsOne : List Entry → Entry → Type 0
  IsOne all e = entry_in all e.place ≡ Some e

  pub heads_found : (all : List Entry) (c : Code) (w : Ways) → IsListed all (entries_by M mode H c w) → AllByRecursion (IsFoundIn all) (turns_by M mode H c w)
  unfolding IsListed
  heads_found all Done w h = tt
  heads_found all (Assign place x e rest) w h = heads_found all rest (onto w (assigned M mode x e w.behind)) h.1
  heads_found all (Input place x rest) w h = heads_found all rest (onto w (forgotten M x w.behind)) h.1
  heads_found all (Assert place e rest) w h = heads_found all rest (onto w (assumed M mode e true w.behind)) h.1
  heads_found all (If place e p q rest) w h =
      let t = onto w (assumed M mode e true w.behind) in
      let f = onto (passed M mode H p t) (assumed M mode e false w.behind) in
      let j = chosen M mode H e p q w in
      let ep = entries_by M mode H p t in
      let eq = entries_by M mode H q f in
      let er = entries_by M mode H rest j in
      let behind = all_right (IsOne all) ep (eq ++ er) h.1 in
      all_both (IsFoundIn all) _ _ (heads_found all p t (all_left (IsOne all) ep (eq ++ er) h.1))
      (all_both (IsFoundIn all) _ _ (heads_found all q f (all_left (IsOne all) eq er behind)) (heads_found all rest j (all_right (IsOne all) eq er behind)))
  heads_found all (While place e step body rest) w h =
      let l = TestFirst e step body in
      let x = head_by M mode H place l w.behind in
      let t = enter (assumed M mode e true x) in
      let f = behind_by M mode H l w x in
      let y = enter (going_on M (through_body M mode H l x)) in
      let es = entries_by M mode H step y in
      let eb = entries_by M mode H body t in
      let er = entries_by M mode H rest f in
      let behind = all_right (IsOne all) es (eb ++ er) h.1 in (
        λ d. ap (leaf_or d) h.0,
        all_both (IsFoundIn all) _ _ (heads_found all step y (all_left (IsOne all) es (eb ++ er) h.1))
            (all_both (IsFoundIn all) _ _ (heads_found all body t (all_left (IsOne all) eb er behind)) (heads_found all rest f (all_right (IsOne all) eb er behind))),
      )
  heads_found all (Do place body at e rest) w h =
      let l = TestLast body at e in
      let x = head_by M mode H place l w.behind in
      let f = behind_by M mode H l w x in
      let test : Entry = record { place = at; statement = If at e Done Done Done; leaf = going_on M (through_body M mode H l x) } in
      let eb = entries_by M mode H body (enter x) in
      let er = entries_by M mode H rest f in
      let behind = all_right (IsOne all) eb (test ∷ er) h.1 in (
        λ d. ap (leaf_or d) h.0,
        all_both (IsFoundIn all) _ _ (heads_found all body (enter x) (all_left (IsOne all) eb (test ∷ er) h.1)) (heads_found all rest f behind.1),
      )
  heads_found all (Leave place jump rest) w h = heads_found all rest (leave_by M mode jump w) h.1
  heads_found all (Block place body rest) w h =
      let y = passed M mode H body w in
      let eb = entries_by M mode H body w in
      let er = entries_by M mode H rest y in
      all_both (IsFoundIn all) _ _ (heads_found all body w (all_left (IsOne all) eb er h.1)) (heads_found all rest y (all_right (IsOne all) eb er h.1))
  heads_found all (Skip place rest) w h = heads_found all rest w h.1
  heads_found all (Cond number p q rest) w h = heads_found all rest w h
