-- The reduced product of two kinds of leaf is below both.
use Rattle.std.proofs.Common.{◌≡◌, inl, inr, ℕ, ℤ, pos, ◌≤ℤ◌, int_lt, Bool, true, false, ◌||◌, if◌then◌else◌, List, Option, Some, None, refl, sym, subst, ◌∙◌, arith}
use Rattle.std.specs.Int.{int_min, int_max}
use Rattle.std.proofs.lemmas.Int.{ints, clamps}
use Rattle.leaf_domain.specs.declared.form.Form.{Form}
use Rattle.leaf_domain.specs.declared.range.Range.{Range}
use Rattle.leaf_domain.specs.declared.compare.Compare.{Compare}
use Rattle.leaf_domain.specs.declared.compare.Compare.TheVariants.{Lt, Le, Gt, Ge, Eq, Ne}
use Rattle.leaf_domain.specs.Ranges.{Within, meet_of, is_empty_range, range_at, empty_range}
use Rattle.leaf_domain.specs.Forms.{IsForm}
use Rattle.leaf_domain.specs.Leaves.{LeafValue, LeafMeaning, LeafLaws, Alike, IsLeafLike, nothing_of, is_nothing_of, at_store}
use Rattle.leaf_domain.specs.Exactness.{LeafExactness}
use Rattle.paired_leaf.specs.Pairs.{pair_of, first_of, second_of, IsPair}
use Rattle.paired_leaf.specs.Exchange.{refined_first, refined_second, exchanged}
use Rattle.paired_leaf.specs.PairedLeaves.{both_ranges, both_bounds, widened_to, joined, both_compared, either_side, compared, paired}
use Rattle.paired_leaf.specs.Below.{JoinIsLeast, IsBelow, IsNarrower, IsBelowParts}
use Rattle.paired_leaf.proofs.PairLemmas.{at, of_either, true_both, first_is, second_is}
use Rattle.paired_leaf.proofs.ExchangeLaws.{AreTwo, refined_like, first_only, second_only}
use Rattle.paired_leaf.proofs.RangeLemmas.{meet_has}
use Rattle.paired_leaf.proofs.PairedLaws as laws

-- ---- ranges
meet_back : (r q : Range) (n : ℤ) → Within n (meet_of r q) → Within n r × Within n q
meet_back r q n h = by_test (int_lt (int_min r.high q.high) (int_max r.low q.low)) h
  where
    by_test : (t : Bool) → Within n (if t then empty_range else range_at (int_max r.low q.low) (int_min r.high q.high)) → Within n r × Within n q
    by_test true h = let p : pos 1 ≤ℤ n = h.low in let q : n ≤ℤ pos 0 = h.high in absurd (omega (arith, ints))
    by_test false h =
        let k : int_max r.low q.low ≤ℤ n = h.low in
        let l : n ≤ℤ int_min r.high q.high = h.high in
        (record { low = omega (arith, ints, clamps); high = omega (arith, ints, clamps) }, record { low = omega (arith, ints, clamps); high = omega (arith, ints, clamps) })

narrower : (o p : Option Range) → IsNarrower (both_ranges o p) o p
narrower None None n h = (tt, tt)
narrower None (Some q) n h = (tt, h)
narrower (Some r) None n h = (h, tt)
narrower (Some r) (Some q) n h = meet_back r q n h

bounds_back : (r q : Range) (m n : ℤ) → Within m r → Within m q → Within n (both_bounds r q) → Within n r × Within n q
bounds_back r q m n h k w = by_test (is_empty_range (meet_of r q)) refl w
  where
    some : (p : Range) → Within m p → is_empty_range p ≡ true → {Q : Type 0} → Q
    some p g e = let i : p.low ≤ℤ m = g.low in let j : m ≤ℤ p.high = g.high in absurd (omega (arith, ints))

    by_test : (t : Bool) → is_empty_range (meet_of r q) ≡ t → Within n (if t then r else meet_of r q) → Within n r × Within n q
    by_test true e w = some (meet_of r q) (meet_has r q m h k) e
    by_test false e w = meet_back r q n w

module _ (A B : LeafMeaning) (L : LeafLaws A) (K : LeafLaws B) (E : LeafExactness A) (F : LeafExactness B) where
  -- ---- parts
  pair_first : (a b : LeafValue) (s : List ℤ) → A.holds (first_of (pair_of a b)) s → A.holds a s
  pair_first a b s h = by_content a.variables b.variables a.content b.content h
    where
      by_content : (n m : ℕ) (c d : Option (List ℤ)) → A.holds (first_of (pair_of (at n c) (at m d))) s → A.holds (at n c) s
      by_content n m None d h = h
      by_content n m (Some ns) None h = absurd (L.nothing_holds n s h)
      by_content n m (Some ns) (Some ms) h = let P : LeafValue → Type 0 = λ v. A.holds v s in subst P (first_is (at n (Some ns)) (at m (Some ms)) refl refl) h

  pair_second : (a b : LeafValue) (s : List ℤ) → a.variables ≡ b.variables → B.holds (second_of (pair_of a b)) s → B.holds b s
  pair_second a b s e h = by_content a.variables b.variables a.content b.content e h
    where
      by_content : (n m : ℕ) (c d : Option (List ℤ)) → n ≡ m → B.holds (second_of (pair_of (at n c) (at m d))) s → B.holds (at m d) s
      by_content n m None d e h = absurd (K.nothing_holds n s h)
      by_content n m (Some ns) None e h = absurd (K.nothing_holds n s h)
      by_content n m (Some ns) (Some ms) e h = let P : LeafValue → Type 0 = λ v. B.holds v s in subst P (second_is (at n (Some ns)) (at m (Some ms)) e refl refl) h

  nothing_below : (n : ℕ) (a b : LeafValue) → IsBelow A B (nothing_of n) a b
  nothing_below n a b = record { first = λ s h. absurd (L.nothing_holds n s h); second = λ s h. absurd (K.nothing_holds n s h) }

  pair_below : (a b : LeafValue) → a.variables ≡ b.variables → IsBelow A B (pair_of a b) a b
  pair_below a b e = record { first = λ s h. pair_first a b s h; second = λ s h. pair_second a b s e h }

  -- ---- two leaves that refined each other
  exchanged_below : (a b : LeafValue) → AreTwo A B L K a b → IsBelow A B (exchanged A B a b) a b
  unfolding exchanged
  exchanged_below a b t =
      let r = refined_like A B L K a b t in
      of_either (λ u. IsBelow A B u a b) (is_nothing_of a || is_nothing_of b) (nothing_of a.variables) (pair_of (refined_first A B a b) (refined_second A B a b))
      (nothing_below a.variables a b)
      (record {
        first = λ s h. first_only A B L K E F a b s t (pair_first (refined_first A B a b) (refined_second A B a b) s h);
        second = λ s h. second_only A B L K E F a b s t (pair_second (refined_first A B a b) (refined_second A B a b) s (r.first.same ∙ t.same ∙ sym r.second.same) h);
      })

  refined_below : (v a b : LeafValue) → IsLeafLike A (first_of v) a → IsLeafLike B (second_of v) b → IsBelow A B (exchanged A B a b) a b
  refined_below v a b i j = exchanged_below a b (laws.two_of A B L K v a b i j)

  -- ---- join and widening
  join_below : (v w : LeafValue) → Alike (paired A B) v w → IsBelow A B (joined A B v w) (A.join (first_of v) (first_of w)) (B.join (second_of v) (second_of w))
  join_below v w k =
      let p = laws.first_alike A B L K v w k in
      let q = laws.second_alike A B L K v w k in
      let a = A.join (first_of v) (first_of w) in
      let b = B.join (second_of v) (second_of w) in
      of_either (λ u. IsBelow A B u a b) (is_nothing_of v) w (if is_nothing_of w then v else pair_of a b)
      (record { first = λ s h. L.join_holds (first_of v) (first_of w) s p (inr h); second = λ s h. K.join_holds (second_of v) (second_of w) s q (inr h) })
      (of_either (λ u. IsBelow A B u a b) (is_nothing_of w) v (pair_of a b)
      (record { first = λ s h. L.join_holds (first_of v) (first_of w) s p (inl h); second = λ s h. K.join_holds (second_of v) (second_of w) s q (inl h) })
      (pair_below a b ((L.join_answers (first_of v) (first_of w) p).same ∙ sym (K.join_answers (second_of v) (second_of w) q).same)))

  wider_below : (M : LeafMeaning) (N : LeafLaws M) (ts : List ℤ) (a b : LeafValue) (s : List ℤ) → Alike M a b → M.holds (widened_to M ts a b) s → M.holds (M.widen ts a b) s
  wider_below M N ts a b s k = of_either (λ u. M.holds u s → M.holds (M.widen ts a b) s) (M.leq b a) a (M.widen ts a b) (λ h. N.widen_holds ts a b s k (inl h)) (λ h. h)

  widen_below : (ts : List ℤ) (v w : LeafValue) → Alike (paired A B) v w → IsBelow A B ((paired A B).widen ts v w) (A.widen ts (first_of v) (first_of w)) (B.widen ts (second_of v) (second_of w))
  widen_below ts v w k =
      let c = widened_to A ts (first_of v) (first_of w) in
      let d = widened_to B ts (second_of v) (second_of w) in
      let e : c.variables ≡ d.variables = (laws.first_wide A B L K ts v w k).same ∙ sym (laws.second_wide A B L K ts v w k).same in
      record {
        first = λ s h. wider_below A L ts (first_of v) (first_of w) s (laws.first_alike A B L K v w k) (pair_first c d s h);
        second = λ s h. wider_below B K ts (second_of v) (second_of w) s (laws.second_alike A B L K v w k) (pair_second c d s e h);
      }

  narrow_below : (ts : List ℤ) (v w : LeafValue) → Alike (paired A B) v w → IsBelow A B ((paired A B).narrow ts v w) (A.narrow ts (first_of v) (first_of w)) (B.narrow ts (second_of v) (second_of w))
  narrow_below ts v w k =
      pair_below (A.narrow ts (first_of v) (first_of w)) (B.narrow ts (second_of v) (second_of w))
      ((L.narrow_answers ts (first_of v) (first_of w) (laws.first_alike A B L K v w k)).same ∙ sym (K.narrow_answers ts (second_of v) (second_of w) (laws.second_alike A B L K v w k)).same)

  -- ---- comparisons
  compared_below : (v a b : LeafValue) (f : Form) (op : Compare) → IsLeafLike A (first_of v) a → IsLeafLike B (second_of v) b → IsForm v.variables f → IsBelow A B (both_compared A B a b f op) (A.meet_form a f op) (B.meet_form b f op)
  compared_below v a b f op i j g =
      let x = L.meet_form_answers a f op i.valid (subst (λ n. IsForm n f) (sym i.same) g) in
      let y = K.meet_form_answers b f op j.valid (subst (λ n. IsForm n f) (sym j.same) g) in
      refined_below v (A.meet_form a f op) (B.meet_form b f op) (record { valid = x.valid; same = x.same ∙ i.same }) (record { valid = y.valid; same = y.same ∙ j.same })

  side_below : (v a b : LeafValue) (f : Form) (op : Compare) → IsLeafLike A (first_of v) a → IsLeafLike B (second_of v) b → IsForm v.variables f → IsBelow A B (both_compared A B a b f op) a b
  side_below v a b f op i j g =
      let c = compared_below v a b f op i j g in
      record {
        first = λ s h. E.meet_form_only a f op s i.valid (subst (λ n. IsForm n f) (sym i.same) g) (c.first s h);
        second = λ s h. F.meet_form_only b f op s j.valid (subst (λ n. IsForm n f) (sym j.same) g) (c.second s h);
      }

  module _ (least : JoinIsLeast A) (lowest : JoinIsLeast B) where
    either_below : (v a b : LeafValue) (f : Form) → IsLeafLike A (first_of v) a → IsLeafLike B (second_of v) b → IsForm v.variables f → IsBelow A B (either_side A B a b f) a b
    either_below v a b f i j g =
        let l = both_compared A B a b f Lt in
        let r = both_compared A B a b f Gt in
        let k = laws.sides_alike A B L K v a b f i j g in
        let p = laws.first_alike A B L K l r k in
        let q = laws.second_alike A B L K l r k in
        let x = side_below v a b f Lt i j g in
        let y = side_below v a b f Gt i j g in
        let e : l.variables ≡ v.variables = (laws.compared_like A B L K v a b f Lt i j g).same in
        let c = A.join (first_of l) (first_of r) in
        let d = B.join (second_of l) (second_of r) in
        of_either (λ u. IsBelow A B u a b) (is_nothing_of l) r (if is_nothing_of r then l else pair_of c d) y
        (of_either (λ u. IsBelow A B u a b) (is_nothing_of r) l (pair_of c d) x
        (record {
          first = λ s h. least (first_of l) (first_of r) a p i.valid (i.same ∙ sym e) x.first y.first s (pair_first c d s h);
          second = λ s h. lowest (second_of l) (second_of r) b q j.valid (j.same ∙ sym e) x.second y.second s
              (pair_second c d s ((L.join_answers (first_of l) (first_of r) p).same ∙ sym (K.join_answers (second_of l) (second_of r) q).same) h);
        }))

    meet_form_below : (v : LeafValue) (f : Form) (op : Compare) → IsPair A B v → IsForm v.variables f → IsBelow A B (compared A B v f op) (A.meet_form (first_of v) f op) (B.meet_form (second_of v) f op)
    meet_form_below v f Lt p g = compared_below v (first_of v) (second_of v) f Lt (laws.own_first A B L K v p) (laws.own_second A B L K v p) g
    meet_form_below v f Le p g = compared_below v (first_of v) (second_of v) f Le (laws.own_first A B L K v p) (laws.own_second A B L K v p) g
    meet_form_below v f Gt p g = compared_below v (first_of v) (second_of v) f Gt (laws.own_first A B L K v p) (laws.own_second A B L K v p) g
    meet_form_below v f Ge p g = compared_below v (first_of v) (second_of v) f Ge (laws.own_first A B L K v p) (laws.own_second A B L K v p) g
    meet_form_below v f Eq p g = compared_below v (first_of v) (second_of v) f Eq (laws.own_first A B L K v p) (laws.own_second A B L K v p) g
    meet_form_below v f Ne p g = either_below v (A.meet_form (first_of v) f Ne) (B.meet_form (second_of v) f Ne) f (laws.first_apart A B L K v f p g) (laws.second_apart A B L K v f p g) g

    pub paired_below : IsBelowParts A B (paired A B)
    paired_below = record {
      start = λ s. pair_below (A.start s) (B.start s) (laws.start_same A B L K s);
      best = λ v p. refined_below v (A.best (first_of v)) (B.best (second_of v)) (L.best_answers (first_of v) p.first) (K.best_answers (second_of v) p.second);
      leq = λ v w. true_both (A.leq (first_of v) (first_of w)) (B.leq (second_of v) (second_of w));
      join = join_below;
      widen = widen_below;
      narrow = narrow_below;
      bounds = λ v x s n p l h w. bounds_back (A.bounds_of (first_of v) x) (B.bounds_of (second_of v) x) (at_store s x) n (L.bounds_hold (first_of v) x s p.first l h.0) (K.bounds_hold (second_of v) x s p.second l h.1) w;
      form_range = λ v f. narrower (A.form_range (first_of v) f) (B.form_range (second_of v) f);
      meet_range = λ v x r p l i. refined_below v (A.meet_range (first_of v) x r) (B.meet_range (second_of v) x r) (L.meet_answers (first_of v) x r p.first l i) (K.meet_answers (second_of v) x r p.second l i);
      meet_form = meet_form_below;
      set_range = λ v x r p l i. refined_below v (A.set_range (first_of v) x r) (B.set_range (second_of v) x r) (L.set_answers (first_of v) x r p.first l i) (K.set_answers (second_of v) x r p.second l i);
      set_form = λ v x f r p l g i. refined_below v (A.set_form (first_of v) x f r) (B.set_form (second_of v) x f r)
          (L.set_form_answers (first_of v) x f r p.first l g i) (K.set_form_answers (second_of v) x f r p.second l g i);
      operation_range = λ v d. narrower (A.operation_range (first_of v) d) (B.operation_range (second_of v) d);
      meet_operation = λ v d op r p o i. refined_below v (A.meet_operation (first_of v) d op r) (B.meet_operation (second_of v) d op r)
          (L.meet_operation_answers (first_of v) d op r p.first o i) (K.meet_operation_answers (second_of v) d op r p.second o i);
      set_operation = λ v x d r p l o i. refined_below v (A.set_operation (first_of v) x d r) (B.set_operation (second_of v) x d r)
          (L.set_operation_answers (first_of v) x d r p.first l o i) (K.set_operation_answers (second_of v) x d r p.second l o i);
    }
