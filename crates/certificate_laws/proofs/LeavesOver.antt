-- The leaves of an analysis are over the variables of the program.
use Rattle.std.proofs.Common.{◌≡◌, inl, inr, ℕ, ◌≤◌, Bool, true, false, List, [], ◌∷◌, length, refl, sym, subst, ◌∙◌}
use Rattle.std.specs.Prelude.{if◌then◌else◌, Some}
use Rattle.std.specs.List.{AllByRecursion}
use Rattle.fam_outer.specs.declared.faults.Place.{Place}
use Rattle.c_tree.specs.Tree.{Code, Done, Assign, Input, Assert, If, While, Do, Leave, Block, Skip, Cond, Whole}
use Rattle.c_tree.specs.Fit.{IsCodeOf}
use Rattle.c_tree.specs.Project.{projected_start}
use Rattle.c_tree.specs.Whole.{IsProgram}
use Rattle.c_tree.proofs.Starts.{length-start, ints-start}
use Rattle.c_tree.proofs.Wholes.{IsProgram-projected}
use Rattle.cpp_conditions.specs.declared.formulas.Formula.{Formula}
use Rattle.cpp_conditions.specs.Propositions.{true_on}
use Rattle.cpp_conditions.specs.View.{formula}
use Rattle.decision_tree.specs.Plain.{Plain, leaf, node, HasLeaf}
use Rattle.leaf_domain.specs.Leaves.{LeafValue, LeafMeaning, LeafLaws, IsLeafLike, nothing_of}
use Rattle.leaf_domain.specs.Transfer.{assumed}
use Rattle.leaf_domain.specs.Soundness.{TransferAnswers}
use Rattle.plain_analysis.specs.declared.options.Options.{Options}
use Rattle.plain_analysis.specs.Loops.{final_leaf}
use Rattle.plain_analysis.specs.Places.{is_same_place, entry_in, leaf_or, at_of}
use Rattle.plain_analysis.specs.Stated.{ArePartsOf}
use Rattle.plain_analysis.specs.Statements.{LoopParts, TestFirst, TestLast, Entry, after_of, lap_of, entries_of}
use Rattle.plain_analysis.specs.Ways.{Ways, onto, enter, end_of}
use Rattle.plain_analysis.proofs.Kept.{IsLeaf, AreLeaves, like, nothing_leaf, join_leaf, onto_leaves, enter_leaves, going_on_leaf, joined_leaf, loop_leaves, assumed_leaf, assigned_leaf, forgotten_leaf, leave_kept}
use Rattle.plain_analysis.proofs.Recursion.{final_is_leaf, lap_keeps, body_answers, after_answers}
use Rattle.merged_findings.specs.Merged.{IsTreeWhere}
use Rattle.lifted_analysis.specs.Promises.{truths_of, variant_at, begin_at, leaf_at}
use Rattle.certificate_laws.specs.Written.{AllLeaves, IsLeafOver}
use Rattle.certificate_laws.proofs.Trees.{all_both}

-- ---- the leaves with which statements are entered

module _ (M : LeafMeaning) (laws : LeafLaws M) (o : Options) (A : TransferAnswers M o.mode) (n : ℕ) where
  abbrev IsEntryOver : Entry → Type 0
  IsEntryOver e = IsLeaf M n e.leaf

  head_over : (l : LoopParts) (v : LeafValue) → IsLeaf M n v → ArePartsOf n l → IsLeaf M n (final_leaf M o (lap_of M o l) v)
  head_over l v h t = final_is_leaf M laws n o (lap_of M o l) (lap_keeps M laws o A n l t) v h

  entries_over : (c : Code) (w : Ways) → AreLeaves M n w → IsCodeOf n c → AllByRecursion IsEntryOver (entries_of M o c w)
  entries_over Done w h t = tt
  entries_over (Assign place x e rest) w h t =
      (h.behind, entries_over rest _ (onto_leaves M laws n w _ h (assigned_leaf M laws o.mode A n x e w.behind h.behind t.0 t.1)) t.2)
  entries_over (Input place x rest) w h t =
      (h.behind, entries_over rest _ (onto_leaves M laws n w _ h (forgotten_leaf M laws o.mode A n x w.behind h.behind t.0)) t.1)
  entries_over (Assert place e rest) w h t =
      (h.behind, entries_over rest _ (onto_leaves M laws n w _ h (assumed_leaf M laws o.mode A n e true w.behind h.behind t.0)) t.1)
  entries_over (If place e p q rest) w h t =
      let yes = onto w (assumed M o.mode e true w.behind) in
      let yes_in = onto_leaves M laws n w _ h (assumed_leaf M laws o.mode A n e true w.behind h.behind t.0) in
      let a = after_answers M laws o A n p yes yes_in t.1 in
      let no = onto (after_of M o p yes) (assumed M o.mode e false w.behind) in
      let no_in = onto_leaves M laws n _ _ a (assumed_leaf M laws o.mode A n e false w.behind h.behind t.0) in
      let b = after_answers M laws o A n q no no_in t.2 in
      let out = onto_leaves M laws n _ _ b (join_leaf M laws n _ _ a.behind b.behind) in
      (h.behind, all_both IsEntryOver _ _ (entries_over p yes yes_in t.1) (all_both IsEntryOver _ _ (entries_over q no no_in t.2) (entries_over rest _ out t.3)))
  entries_over (While place e step body rest) w h t =
      let l = TestFirst e step body in
      let parts : ArePartsOf n l = (t.0, t.1, t.2, t.4) in
      let x = final_leaf M o (lap_of M o l) w.behind in
      let i = head_over l w.behind h.behind parts in
      let b = body_answers M laws o A n l x i parts in
      let step_in = enter_leaves M laws n _ (going_on_leaf M laws n _ b) in
      let body_in = enter_leaves M laws n _ (assumed_leaf M laws o.mode A n e true x i t.0) in
      let out = loop_leaves M laws n w _ _ h b (assumed_leaf M laws o.mode A n e false x i t.0) in
      (i, all_both IsEntryOver _ _ (entries_over step _ step_in t.1) (all_both IsEntryOver _ _ (entries_over body _ body_in t.2) (entries_over rest _ out t.3)))
  entries_over (Do place body at e rest) w h t =
      let l = TestLast body at e in
      let parts : ArePartsOf n l = (t.0, t.1) in
      let x = final_leaf M o (lap_of M o l) w.behind in
      let i = head_over l w.behind h.behind parts in
      let b = body_answers M laws o A n l x i parts in
      let again = going_on_leaf M laws n _ b in
      let out = loop_leaves M laws n w _ _ h b (assumed_leaf M laws o.mode A n e false _ again t.0) in
      (i, all_both IsEntryOver _ (_ ∷ _) (entries_over body _ (enter_leaves M laws n x i) t.1) (again, entries_over rest _ out t.2))
  entries_over (Leave place jump rest) w h t = (h.behind, entries_over rest _ (leave_kept M laws o.mode A n jump w h t.0).leaves t.1)
  entries_over (Block place body rest) w h t =
      (h.behind, all_both IsEntryOver _ _ (entries_over body w h t.0) (entries_over rest _ (after_answers M laws o A n body w h t.0) t.1))
  entries_over (Skip place rest) w h t = (h.behind, entries_over rest w h t)
  entries_over (Cond number p q rest) w h t = entries_over rest w h t.2

  found_over : (es : List Entry) (place : Place) (v : LeafValue) → AllByRecursion IsEntryOver es → IsLeaf M n v → IsLeaf M n (leaf_or v (entry_in es place))
  found_over [] place v h a = a
  found_over (e ∷ es) place v h a =
      elim (is_same_place e.place place) as (λ b. IsLeaf M n (leaf_or v (if b then Some e else entry_in es place))) [
        | true ↦ h.0
        | false ↦ found_over es place v h.1 a
      ]

-- ---- the leaf at a place

end_over : (M : LeafMeaning) → LeafLaws M → (n : ℕ) (w : Ways) → AreLeaves M n w → IsLeaf M n (end_of M w)
end_over M laws n w h =
    joined_leaf M laws n _ w.continued (joined_leaf M laws n _ w.broke (joined_leaf M laws n w.behind w.returned h.behind h.returned) h.broke) h.continued

either : {X : Type 0} (P : X → Type 0) (b : Bool) (x y : X) → P x → P y → P (if b then x else y)
either P true x y p q = p
either P false x y p q = q

at_over : (M : LeafMeaning) → LeafLaws M → (o : Options) → TransferAnswers M o.mode → (p : Whole) (d : LeafValue) (place : Place) → IsProgram p → M.valid d → d.variables ≡ length p.names → IsLeafLike M d (at_of M o p d place)
at_over M laws o A p d place program valid e =
    let n = d.variables in
    let code : IsCodeOf n p.body = subst (λ m. IsCodeOf m p.body) (sym e) program.names in
    let self : IsLeaf M n d = record { valid = valid; count = refl } in
    let begun = enter_leaves M laws n d self in
    let end = end_over M laws n (after_of M o p.body (enter d)) (after_answers M laws o A n p.body (enter d) begun code) in
    let other = either (IsLeaf M n) (is_same_place p.end place) (end_of M (after_of M o p.body (enter d))) (nothing_of n) end (nothing_leaf M laws n d self) in
    like M laws n d _ self (found_over M laws o A n (entries_of M o p.body (enter d)) place _ (entries_over M laws o A n p.body (enter d) begun code) other)

module _ (M : LeafMeaning) (laws : LeafLaws M) (o : Options) (A : TransferAnswers M o.mode) (p : Whole) (program : IsProgram p) (cs : List Formula) (pl : Formula) where
  begin_over : (v : List Bool) → IsLeafOver M p.names (begin_at M p cs pl v)
  begin_over v = either (IsLeafOver M p.names) (true_on v (formula pl)) (M.start (variant_at p cs v).start) (nothing_of (length p.names)) started none
    where
      started : IsLeafOver M p.names (M.start (variant_at p cs v).start)
      started =
          let count = length-start (truths_of cs v) p.declared 0 p.start ∙ program.starts in
          record {
            valid = laws.start_valid (projected_start (truths_of cs v) p.declared p.start) (subst (λ n. n ≤ 48) (sym count) program.few) (ints-start (truths_of cs v) p.declared (length p.names) 0 p.start program.declared program.ints);
            variables = laws.start_variables (projected_start (truths_of cs v) p.declared p.start) ∙ count;
          }

      none : IsLeafOver M p.names (nothing_of (length p.names))
      none = record { valid = laws.nothing_valid (length p.names) program.few; variables = refl }

  leaf_over : (place : Place) (v : List Bool) → IsLeafOver M p.names (leaf_at M o p cs pl place v)
  leaf_over place v =
      let d = begin_over v in
      let a = at_over M laws o A (variant_at p cs v) (begin_at M p cs pl v) place (IsProgram-projected (truths_of cs v) p program) d.valid d.variables in
      record { valid = a.valid; variables = a.same ∙ d.variables }

  -- each leaf of the tree of a place is over the variables of the program
  pub tree_over : (m : ℕ) (place : Place) (t : Plain LeafValue) → IsTreeWhere m (leaf_at M o p cs pl place) (formula pl) t → AllLeaves (IsLeafOver M p.names) t
  tree_over m place t h = each t (λ x at. by x (h.leaves x at))
    where
      by : (x : LeafValue) → (v : List Bool) × (length v ≡ m) × (leaf_at M o p cs pl place v ≡ x) → IsLeafOver M p.names x
      by x (v, count, e) = subst (IsLeafOver M p.names) e (leaf_over place v)

      each : (s : Plain LeafValue) → ((x : LeafValue) → HasLeaf x s → IsLeafOver M p.names x) → AllLeaves (IsLeafOver M p.names) s
      each (leaf x) f = f x refl
      each (node test low high) f = (each low (λ x g. f x (inl g)), each high (λ x g. f x (inr g)))
