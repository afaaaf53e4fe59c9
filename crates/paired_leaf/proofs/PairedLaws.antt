-- The reduced product of two kinds of leaf that keep the laws of leaves keeps them too.
use Rattle.std.proofs.Common.{◌≡◌, ◌⊎◌, inl, inr, ◌↔◌, ℕ, ◌+◌, ◌*◌, ◌<◌, ◌≤◌, ℤ, pos, int_lt, Bool, true, false, not, ◌&&◌, if◌then◌else◌, List, Option, Some, None, length, slice_set, refl, ap, sym, subst, ◌∙◌, arith}
use Rattle.std.specs.Ordering.{int_eq}
use Rattle.std.proofs.lemmas.Int.{ints}
use Rattle.std.proofs.Math.Nat.{add-mul}
use Rattle.leaf_domain.specs.declared.form.Form.{Form}
use Rattle.leaf_domain.specs.declared.operation.Operation.{Operation}
use Rattle.leaf_domain.specs.declared.range.Range.{Range}
use Rattle.leaf_domain.specs.declared.compare.Compare.{Compare}
use Rattle.leaf_domain.specs.declared.compare.Compare.TheVariants.{Lt, Le, Gt, Ge, Eq, Ne}
use Rattle.leaf_domain.specs.Compares.{holds_between}
use Rattle.leaf_domain.specs.Ranges.{Within, is_empty_range}
use Rattle.leaf_domain.specs.Forms.{form_at, IsForm}
use Rattle.leaf_domain.specs.Operations.{IsOperation, Operates}
use Rattle.leaf_domain.specs.Leaves.{LeafValue, LeafMeaning, LeafLaws, Alike, IsLeafLike, nothing_of, is_nothing_of, at_store}
use Rattle.leaf_domain.specs.Exactness.{LeafExactness}
use Rattle.paired_leaf.specs.Pairs.{pair_of, first_of, second_of, IsPair, HoldsBoth}
use Rattle.paired_leaf.specs.Exchange.{exchanged}
use Rattle.paired_leaf.specs.PairedLeaves.{both_ranges, both_bounds, widened_to, joined, both_compared, either_side, compared, paired}
use Rattle.paired_leaf.proofs.PairLemmas as pairs
use Rattle.paired_leaf.proofs.PairLemmas.{at, of_either, both_true, true_both}
use Rattle.paired_leaf.proofs.ExchangeLaws as exchanges
use Rattle.paired_leaf.proofs.ExchangeLaws.{AreTwo}
use Rattle.paired_leaf.proofs.RangeLemmas as ranges

-- ---- one kind: a leaf as it is where it is above the other, and else widened
module _ (M : LeafMeaning) (L : LeafLaws M) where
  pub wider_like : (ts : List ℤ) (a b : LeafValue) → Alike M a b → IsLeafLike M a (widened_to M ts a b)
  wider_like ts a b k = of_either (IsLeafLike M a) (M.leq b a) a (M.widen ts a b) (record { valid = k.first; same = refl }) (L.widen_answers ts a b k)

  swapped : (a b : LeafValue) → Alike M a b → Alike M b a
  swapped a b k = record { first = k.second; second = k.first; same = sym k.same }

  pub wider_holds : (ts : List ℤ) (a b : LeafValue) (s : List ℤ) → Alike M a b → M.holds a s ⊎ M.holds b s → M.holds (widened_to M ts a b) s
  wider_holds ts a b s k h = by_test (M.leq b a) refl h
    where
      by_test : (t : Bool) → M.leq b a ≡ t → M.holds a s ⊎ M.holds b s → M.holds (if t then a else M.widen ts a b) s
      by_test true e (inl h) = h
      by_test true e (inr h) = L.leq_holds b a s (swapped a b k) e h
      by_test false e h = L.widen_holds ts a b s k h

  pub wider_some : (ts : List ℤ) (a b : LeafValue) → Alike M a b → is_nothing_of a ≡ false → is_nothing_of (widened_to M ts a b) ≡ false
  wider_some ts a b k e = of_either (λ u. is_nothing_of u ≡ false) (M.leq b a) a (M.widen ts a b) e (L.widen_some ts a b k e)

  pub wider_falls : (ts : List ℤ) (a b : LeafValue) → Alike M a b → is_nothing_of a ≡ false → is_nothing_of b ≡ false → M.leq b a ≡ false → M.steps_left ts (widened_to M ts a b) < M.steps_left ts a
  wider_falls ts a b k e f g =
      let P : Bool → Type 0 = λ t. M.steps_left ts (if t then a else M.widen ts a b) < M.steps_left ts a in
      subst P (sym g) (L.widen_grows ts a b k e f g)

  pub wider_stays : (ts : List ℤ) (a b : LeafValue) → Alike M a b → is_nothing_of a ≡ false → is_nothing_of b ≡ false → M.steps_left ts (widened_to M ts a b) ≤ M.steps_left ts a
  wider_stays ts a b k e f = by_test (M.leq b a) refl
    where
      by_test : (t : Bool) → M.leq b a ≡ t → M.steps_left ts (if t then a else M.widen ts a b) ≤ M.steps_left ts a
      by_test true g = omega arith
      by_test false g = let h = L.widen_grows ts a b k e f g in omega (arith, h)

-- ---- both kinds
module _ (A B : LeafMeaning) (L : LeafLaws A) (K : LeafLaws B) where
  abbrev P : LeafMeaning
  P = paired A B

  pub first_alike : (a b : LeafValue) → Alike P a b → Alike A (first_of a) (first_of b)
  first_alike a b k = record { first = k.first.first; second = k.second.first; same = k.same }

  pub second_alike : (a b : LeafValue) → Alike P a b → Alike B (second_of a) (second_of b)
  second_alike a b k = record { first = k.first.second; second = k.second.second; same = k.same }

  first_some : (a : LeafValue) → is_nothing_of a ≡ false → is_nothing_of (first_of a) ≡ false
  first_some a e = pairs.first_nothing a ∙ e

  second_some : (a : LeafValue) → is_nothing_of a ≡ false → is_nothing_of (second_of a) ≡ false
  second_some a e = pairs.second_nothing a ∙ e

  -- two answers for the two parts of a leaf
  pub two_of : (v a b : LeafValue) → IsLeafLike A (first_of v) a → IsLeafLike B (second_of v) b → AreTwo A B L K a b
  two_of v a b i j = record { first = i.valid; second = j.valid; same = i.same ∙ sym j.same }

  refined_answers : (v a b : LeafValue) → IsLeafLike A (first_of v) a → IsLeafLike B (second_of v) b → IsLeafLike P v (exchanged A B a b)
  refined_answers v a b i j = let e = exchanges.exchanged_like A B L K v a b (two_of v a b i j) i.same in record { valid = e.0; same = e.1 }

  refined_holds : (v a b : LeafValue) (s : List ℤ) → IsLeafLike A (first_of v) a → IsLeafLike B (second_of v) b → A.holds a s → B.holds b s → HoldsBoth A B (exchanged A B a b) s
  refined_holds v a b s i j h k = exchanges.exchanged_holds A B L K a b s (two_of v a b i j) h k

  pair_answers : (v a b : LeafValue) → IsLeafLike A (first_of v) a → IsLeafLike B (second_of v) b → IsLeafLike P v (pair_of a b)
  pair_answers v a b i j = record { valid = pairs.pair_valid A B L K a b i.valid j.valid (i.same ∙ sym j.same); same = i.same }

  -- ---- start
  pub start_same : (s : List ℤ) → (A.start s).variables ≡ (B.start s).variables
  start_same s = L.start_variables s ∙ sym (K.start_variables s)

  start_holds : (s t : List ℤ) → (HoldsBoth A B (pair_of (A.start s) (B.start s)) t) ↔ (t ≡ s)
  start_holds s t = (
    λ h. (L.start_holds s t).0 (pairs.pair_only A B L K (A.start s) (B.start s) t (start_same s) h).0,
    λ e. pairs.pair_holds A B L K (A.start s) (B.start s) t (start_same s) ((L.start_holds s t).1 e) ((K.start_holds s t).1 e),
  )

  -- ---- best
  best_answers : (a : LeafValue) → IsPair A B a → IsLeafLike P a (P.best a)
  best_answers a p = refined_answers a (A.best (first_of a)) (B.best (second_of a)) (L.best_answers (first_of a) p.first) (K.best_answers (second_of a) p.second)

  best_keeps : (a : LeafValue) (s : List ℤ) → IsPair A B a → HoldsBoth A B a s → HoldsBoth A B (P.best a) s
  best_keeps a s p h =
      refined_holds a (A.best (first_of a)) (B.best (second_of a)) s (L.best_answers (first_of a) p.first) (K.best_answers (second_of a) p.second)
      ((L.best_holds (first_of a) s p.first).1 h.0) ((K.best_holds (second_of a) s p.second).1 h.1)

  -- ---- leq
  leq_holds : (a b : LeafValue) (s : List ℤ) → Alike P a b → P.leq a b ≡ true → HoldsBoth A B a s → HoldsBoth A B b s
  leq_holds a b s k e h =
      let g = both_true (A.leq (first_of a) (first_of b)) (B.leq (second_of a) (second_of b)) e in
      (L.leq_holds (first_of a) (first_of b) s (first_alike a b k) g.0 h.0, K.leq_holds (second_of a) (second_of b) s (second_alike a b k) g.1 h.1)

  nothing_leq : (n : ℕ) (a : LeafValue) → P.leq (nothing_of n) a ≡ true
  nothing_leq n a = true_both (A.leq (nothing_of n) (first_of a)) (B.leq (nothing_of n) (second_of a)) (L.nothing_leq n (first_of a)) (K.nothing_leq n (second_of a))

  leq_nothing : (n : ℕ) (a : LeafValue) → P.leq a (nothing_of n) ≡ true → is_nothing_of a ≡ true
  leq_nothing n a e =
      let g = both_true (A.leq (first_of a) (nothing_of n)) (B.leq (second_of a) (nothing_of n)) e in
      sym (pairs.first_nothing a) ∙ L.leq_nothing n (first_of a) g.0

  -- ---- join
  parts_joined : (a b : LeafValue) → Alike P a b → IsLeafLike P a (pair_of (A.join (first_of a) (first_of b)) (B.join (second_of a) (second_of b)))
  parts_joined a b k =
      pair_answers a (A.join (first_of a) (first_of b)) (B.join (second_of a) (second_of b))
      (L.join_answers (first_of a) (first_of b) (first_alike a b k)) (K.join_answers (second_of a) (second_of b) (second_alike a b k))

  join_answers : (a b : LeafValue) → Alike P a b → IsLeafLike P a (joined A B a b)
  join_answers a b k =
      let c = pair_of (A.join (first_of a) (first_of b)) (B.join (second_of a) (second_of b)) in
      of_either (IsLeafLike P a) (is_nothing_of a) b (if is_nothing_of b then a else c)
      (record { valid = k.second; same = sym k.same })
      (of_either (IsLeafLike P a) (is_nothing_of b) a c (record { valid = k.first; same = refl }) (parts_joined a b k))

  unheld : (a : LeafValue) (s : List ℤ) (Q : Type 0) → is_nothing_of a ≡ true → HoldsBoth A B a s → Q
  unheld a s Q e h =
      let R : LeafValue → Type 0 = λ v. A.holds v s in
      absurd (L.nothing_holds a.variables s (subst R (pairs.nothing_value (first_of a) (pairs.first_nothing a ∙ e)) h.0))

  join_holds : (a b : LeafValue) (s : List ℤ) → Alike P a b → HoldsBoth A B a s ⊎ HoldsBoth A B b s → HoldsBoth A B (joined A B a b) s
  join_holds a b s k h = by_tests (is_nothing_of a) (is_nothing_of b) refl refl h
    where
      c : LeafValue
      c = pair_of (A.join (first_of a) (first_of b)) (B.join (second_of a) (second_of b))

      i : IsLeafLike A (first_of a) (A.join (first_of a) (first_of b))
      i = L.join_answers (first_of a) (first_of b) (first_alike a b k)

      j : IsLeafLike B (second_of a) (B.join (second_of a) (second_of b))
      j = K.join_answers (second_of a) (second_of b) (second_alike a b k)

      of_parts : A.holds (first_of a) s ⊎ A.holds (first_of b) s → B.holds (second_of a) s ⊎ B.holds (second_of b) s → HoldsBoth A B c s
      of_parts p q =
          pairs.pair_holds A B L K (A.join (first_of a) (first_of b)) (B.join (second_of a) (second_of b)) s (i.same ∙ sym j.same)
          (L.join_holds (first_of a) (first_of b) s (first_alike a b k) p) (K.join_holds (second_of a) (second_of b) s (second_alike a b k) q)

      by_tests : (t u : Bool) → is_nothing_of a ≡ t → is_nothing_of b ≡ u → HoldsBoth A B a s ⊎ HoldsBoth A B b s → HoldsBoth A B (if t then b else (if u then a else c)) s
      by_tests true u e f (inl h) = unheld a s (HoldsBoth A B b s) e h
      by_tests true u e f (inr h) = h
      by_tests false true e f (inl h) = h
      by_tests false true e f (inr h) = unheld b s (HoldsBoth A B a s) f h
      by_tests false false e f (inl h) = of_parts (inl h.0) (inl h.1)
      by_tests false false e f (inr h) = of_parts (inr h.0) (inr h.1)

  join_some : (a b : LeafValue) → Alike P a b → is_nothing_of a ≡ false → is_nothing_of (joined A B a b) ≡ false
  join_some a b k e =
      let c = pair_of (A.join (first_of a) (first_of b)) (B.join (second_of a) (second_of b)) in
      let Q : Bool → Type 0 = λ t. is_nothing_of (if t then b else (if is_nothing_of b then a else c)) ≡ false in
      subst Q (sym e)
      (of_either (λ u. is_nothing_of u ≡ false) (is_nothing_of b) a c e
      (pairs.pair_some (A.join (first_of a) (first_of b)) (B.join (second_of a) (second_of b))
      (L.join_some (first_of a) (first_of b) (first_alike a b k) (first_some a e)) (K.join_some (second_of a) (second_of b) (second_alike a b k) (second_some a e))))

  nothing_join : (a : LeafValue) → joined A B a (nothing_of a.variables) ≡ a
  nothing_join a = by_content a.variables a.content
    where
      by_content : (n : ℕ) (c : Option (List ℤ)) → joined A B (at n c) (nothing_of n) ≡ at n c
      by_content n None = refl
      by_content n (Some ns) = refl

  -- ---- widening
  pub first_wide : (ts : List ℤ) (a b : LeafValue) → Alike P a b → IsLeafLike A (first_of a) (widened_to A ts (first_of a) (first_of b))
  first_wide ts a b k = wider_like A L ts (first_of a) (first_of b) (first_alike a b k)

  pub second_wide : (ts : List ℤ) (a b : LeafValue) → Alike P a b → IsLeafLike B (second_of a) (widened_to B ts (second_of a) (second_of b))
  second_wide ts a b k = wider_like B K ts (second_of a) (second_of b) (second_alike a b k)

  widen_answers : (ts : List ℤ) (a b : LeafValue) → Alike P a b → IsLeafLike P a (P.widen ts a b)
  widen_answers ts a b k = pair_answers a (widened_to A ts (first_of a) (first_of b)) (widened_to B ts (second_of a) (second_of b)) (first_wide ts a b k) (second_wide ts a b k)

  firsts : (a b : LeafValue) (s : List ℤ) → HoldsBoth A B a s ⊎ HoldsBoth A B b s → A.holds (first_of a) s ⊎ A.holds (first_of b) s
  firsts a b s (inl h) = inl h.0
  firsts a b s (inr h) = inr h.0

  seconds : (a b : LeafValue) (s : List ℤ) → HoldsBoth A B a s ⊎ HoldsBoth A B b s → B.holds (second_of a) s ⊎ B.holds (second_of b) s
  seconds a b s (inl h) = inl h.1
  seconds a b s (inr h) = inr h.1

  widen_holds : (ts : List ℤ) (a b : LeafValue) (s : List ℤ) → Alike P a b → HoldsBoth A B a s ⊎ HoldsBoth A B b s → HoldsBoth A B (P.widen ts a b) s
  widen_holds ts a b s k h =
      let i = first_wide ts a b k in
      let j = second_wide ts a b k in
      pairs.pair_holds A B L K (widened_to A ts (first_of a) (first_of b)) (widened_to B ts (second_of a) (second_of b)) s (i.same ∙ sym j.same)
      (wider_holds A L ts (first_of a) (first_of b) s (first_alike a b k) (firsts a b s h)) (wider_holds B K ts (second_of a) (second_of b) s (second_alike a b k) (seconds a b s h))

  widen_some : (ts : List ℤ) (a b : LeafValue) → Alike P a b → is_nothing_of a ≡ false → is_nothing_of (P.widen ts a b) ≡ false
  widen_some ts a b k e =
      pairs.pair_some (widened_to A ts (first_of a) (first_of b)) (widened_to B ts (second_of a) (second_of b))
      (wider_some A L ts (first_of a) (first_of b) (first_alike a b k) (first_some a e)) (wider_some B K ts (second_of a) (second_of b) (second_alike a b k) (second_some a e))

  widen_grows : (ts : List ℤ) (a b : LeafValue) → Alike P a b → is_nothing_of a ≡ false → is_nothing_of b ≡ false → P.leq b a ≡ false → P.steps_left ts (P.widen ts a b) < P.steps_left ts a
  widen_grows ts a b k e f g =
      let i = first_wide ts a b k in
      let j = second_wide ts a b k in
      let c = widened_to A ts (first_of a) (first_of b) in
      let d = widened_to B ts (second_of a) (second_of b) in
      let p = wider_some A L ts (first_of a) (first_of b) (first_alike a b k) (first_some a e) in
      let q = wider_some B K ts (second_of a) (second_of b) (second_alike a b k) (second_some a e) in
      let u : A.steps_left ts (first_of (pair_of c d)) ≡ A.steps_left ts c = ap (λ v. A.steps_left ts v) (pairs.first_is c d p q) in
      let w : B.steps_left ts (second_of (pair_of c d)) ≡ B.steps_left ts d = ap (λ v. B.steps_left ts v) (pairs.second_is c d (i.same ∙ sym j.same) p q) in
      fewer (A.steps_left ts (first_of (pair_of c d))) (A.steps_left ts c) (A.steps_left ts (first_of a)) (B.steps_left ts (second_of (pair_of c d))) (B.steps_left ts d) (B.steps_left ts (second_of a)) u w
      (by_tests (A.leq (first_of b) (first_of a)) (B.leq (second_of b) (second_of a)) refl refl g)
    where
      falls_first : A.leq (first_of b) (first_of a) ≡ false → (A.steps_left ts (widened_to A ts (first_of a) (first_of b)) + B.steps_left ts (widened_to B ts (second_of a) (second_of b))) < (A.steps_left ts (first_of a) + B.steps_left ts (second_of a))
      falls_first h =
          let x = wider_falls A L ts (first_of a) (first_of b) (first_alike a b k) (first_some a e) (first_some b f) h in
          let y = wider_stays B K ts (second_of a) (second_of b) (second_alike a b k) (second_some a e) (second_some b f) in
          omega (arith, x, y)

      falls_second : B.leq (second_of b) (second_of a) ≡ false → (A.steps_left ts (widened_to A ts (first_of a) (first_of b)) + B.steps_left ts (widened_to B ts (second_of a) (second_of b))) < (A.steps_left ts (first_of a) + B.steps_left ts (second_of a))
      falls_second h =
          let x = wider_stays A L ts (first_of a) (first_of b) (first_alike a b k) (first_some a e) (first_some b f) in
          let y = wider_falls B K ts (second_of a) (second_of b) (second_alike a b k) (second_some a e) (second_some b f) h in
          omega (arith, x, y)

      by_tests : (t u : Bool) → A.leq (first_of b) (first_of a) ≡ t → B.leq (second_of b) (second_of a) ≡ u → (A.leq (first_of b) (first_of a) && B.leq (second_of b) (second_of a)) ≡ false
          → (A.steps_left ts (widened_to A ts (first_of a) (first_of b)) + B.steps_left ts (widened_to B ts (second_of a) (second_of b))) < (A.steps_left ts (first_of a) + B.steps_left ts (second_of a))
      by_tests false u h i g = falls_first h
      by_tests true false h i g = falls_second i
      by_tests true true h i g = clash (true_both (A.leq (first_of b) (first_of a)) (B.leq (second_of b) (second_of a)) h i) g
        where
          clash : {t : Bool} {Q : Type 0} → t ≡ true → t ≡ false → Q
          clash e f = cc

      fewer : (x c m y d n : ℕ) → x ≡ c → y ≡ d → (c + d) < (m + n) → (x + y) < (m + n)
      fewer x c m y d n p q h = omega (arith, p, q, h)

  steps_few : (ts : List ℤ) (a : LeafValue) → IsPair A B a → P.steps_left ts a ≤ P.bound_count a.variables * (length ts + 1)
  steps_few ts a p =
      let x = L.steps_few ts (first_of a) p.first in
      let y = K.steps_few ts (second_of a) p.second in
      omega (arith, x, y, add-mul (A.bound_count a.variables) (B.bound_count a.variables) (length ts + 1))

  -- ---- narrowing
  narrow_answers : (ts : List ℤ) (a b : LeafValue) → Alike P a b → IsLeafLike P a (P.narrow ts a b)
  narrow_answers ts a b k =
      pair_answers a (A.narrow ts (first_of a) (first_of b)) (B.narrow ts (second_of a) (second_of b))
      (L.narrow_answers ts (first_of a) (first_of b) (first_alike a b k)) (K.narrow_answers ts (second_of a) (second_of b) (second_alike a b k))

  narrow_holds : (ts : List ℤ) (a b : LeafValue) (s : List ℤ) → Alike P a b → P.leq b a ≡ true → HoldsBoth A B b s → HoldsBoth A B (P.narrow ts a b) s
  narrow_holds ts a b s k e h =
      let g = both_true (A.leq (first_of b) (first_of a)) (B.leq (second_of b) (second_of a)) e in
      let i = L.narrow_answers ts (first_of a) (first_of b) (first_alike a b k) in
      let j = K.narrow_answers ts (second_of a) (second_of b) (second_alike a b k) in
      pairs.pair_holds A B L K (A.narrow ts (first_of a) (first_of b)) (B.narrow ts (second_of a) (second_of b)) s (i.same ∙ sym j.same)
      (L.narrow_holds ts (first_of a) (first_of b) s (first_alike a b k) g.0 h.0) (K.narrow_holds ts (second_of a) (second_of b) s (second_alike a b k) g.1 h.1)

  narrow_nothing : (ts : List ℤ) (n : ℕ) (a : LeafValue) → is_nothing_of (P.narrow ts (nothing_of n) a) ≡ true
  narrow_nothing ts n a = pairs.pair_nothing (A.narrow ts (nothing_of n) (first_of a)) (B.narrow ts (nothing_of n) (second_of a)) (L.narrow_nothing ts n (first_of a))

  -- ---- forms
  form_holds : (a : LeafValue) (f : Form) (r : Range) (s : List ℤ) → IsPair A B a → IsForm a.variables f → HoldsBoth A B a s → P.form_range a f ≡ Some r → Within (form_at f s) r
  form_holds a f r s p i h e =
      let o = A.form_range (first_of a) f in
      let q = B.form_range (second_of a) f in
      let x = ranges.if_some o (Within (form_at f s)) (λ t g. L.form_holds (first_of a) f t s p.first i h.0 g) in
      let y = ranges.if_some q (Within (form_at f s)) (λ t g. K.form_holds (second_of a) f t s p.second i h.1 g) in
      ranges.at_some (both_ranges o q) (Within (form_at f s)) r (ranges.both_have o q (form_at f s) x y) e

  form_nothing : (n : ℕ) (f : Form) (r : Range) → P.form_range (nothing_of n) f ≡ Some r → is_empty_range r ≡ true
  form_nothing n f r e =
      let o = A.form_range (nothing_of n) f in
      let q = B.form_range (nothing_of n) f in
      let x = ranges.if_some o ranges.IsEmpty (λ t g. L.form_nothing n f t g) in
      let y = ranges.if_some q ranges.IsEmpty (λ t g. K.form_nothing n f t g) in
      ranges.at_some (both_ranges o q) ranges.IsEmpty r (ranges.both_empty o q x y) e

  operation_holds : (a : LeafValue) (d : Operation) (r : Range) (s : List ℤ) (n : ℤ) → IsPair A B a → IsOperation a.variables d → HoldsBoth A B a s → Operates d s n → P.operation_range a d ≡ Some r → Within n r
  operation_holds a d r s n p i h w e =
      let o = A.operation_range (first_of a) d in
      let q = B.operation_range (second_of a) d in
      let x = ranges.if_some o (Within n) (λ t g. L.operation_holds (first_of a) d t s n p.first i h.0 w g) in
      let y = ranges.if_some q (Within n) (λ t g. K.operation_holds (second_of a) d t s n p.second i h.1 w g) in
      ranges.at_some (both_ranges o q) (Within n) r (ranges.both_have o q n x y) e

  -- ---- comparisons
  pub compared_like : (v a b : LeafValue) (f : Form) (op : Compare) → IsLeafLike A (first_of v) a → IsLeafLike B (second_of v) b → IsForm v.variables f → IsLeafLike P v (both_compared A B a b f op)
  compared_like v a b f op i j g =
      let x = L.meet_form_answers a f op i.valid (subst (λ n. IsForm n f) (sym i.same) g) in
      let y = K.meet_form_answers b f op j.valid (subst (λ n. IsForm n f) (sym j.same) g) in
      refined_answers v (A.meet_form a f op) (B.meet_form b f op) (record { valid = x.valid; same = x.same ∙ i.same }) (record { valid = y.valid; same = y.same ∙ j.same })

  compared_holds : (v a b : LeafValue) (f : Form) (op : Compare) (s : List ℤ) → IsLeafLike A (first_of v) a → IsLeafLike B (second_of v) b → IsForm v.variables f → A.holds a s → B.holds b s
      → holds_between op (form_at f s) (pos 0) ≡ true → HoldsBoth A B (both_compared A B a b f op) s
  compared_holds v a b f op s i j g h k e =
      let i' = subst (λ n. IsForm n f) (sym i.same) g in
      let j' = subst (λ n. IsForm n f) (sym j.same) g in
      let x = L.meet_form_answers a f op i.valid i' in
      let y = K.meet_form_answers b f op j.valid j' in
      refined_holds v (A.meet_form a f op) (B.meet_form b f op) s (record { valid = x.valid; same = x.same ∙ i.same }) (record { valid = y.valid; same = y.same ∙ j.same })
      (L.meet_form_holds a f op s i.valid i' h e) (K.meet_form_holds b f op s j.valid j' k e)

  pub own_first : (v : LeafValue) → IsPair A B v → IsLeafLike A (first_of v) (first_of v)
  own_first v p = record { valid = p.first; same = refl }

  pub own_second : (v : LeafValue) → IsPair A B v → IsLeafLike B (second_of v) (second_of v)
  own_second v p = record { valid = p.second; same = refl }

  pub sides_alike : (v a b : LeafValue) (f : Form) → IsLeafLike A (first_of v) a → IsLeafLike B (second_of v) b → IsForm v.variables f → Alike P (both_compared A B a b f Lt) (both_compared A B a b f Gt)
  sides_alike v a b f i j g =
      let x = compared_like v a b f Lt i j g in
      let y = compared_like v a b f Gt i j g in
      record { first = x.valid; second = y.valid; same = x.same ∙ sym y.same }

  either_like : (v a b : LeafValue) (f : Form) → IsLeafLike A (first_of v) a → IsLeafLike B (second_of v) b → IsForm v.variables f → IsLeafLike P v (either_side A B a b f)
  either_like v a b f i j g =
      let x = compared_like v a b f Lt i j g in
      let z = join_answers (both_compared A B a b f Lt) (both_compared A B a b f Gt) (sides_alike v a b f i j g) in
      record { valid = z.valid; same = z.same ∙ x.same }

  either_holds : (v a b : LeafValue) (f : Form) (s : List ℤ) → IsLeafLike A (first_of v) a → IsLeafLike B (second_of v) b → IsForm v.variables f → A.holds a s → B.holds b s
      → holds_between Ne (form_at f s) (pos 0) ≡ true → HoldsBoth A B (either_side A B a b f) s
  either_holds v a b f s i j g h k e =
      join_holds (both_compared A B a b f Lt) (both_compared A B a b f Gt) s (sides_alike v a b f i j g)
      (by_test (int_lt (form_at f s) (pos 0)) refl)
    where
      above : (n : ℤ) → not (int_eq n (pos 0)) ≡ true → int_lt n (pos 0) ≡ false → int_lt (pos 0) n ≡ true
      above n e d = grind (arith, ints)

      by_test : (t : Bool) → int_lt (form_at f s) (pos 0) ≡ t → HoldsBoth A B (both_compared A B a b f Lt) s ⊎ HoldsBoth A B (both_compared A B a b f Gt) s
      by_test true d = inl (compared_holds v a b f Lt s i j g h k d)
      by_test false d = inr (compared_holds v a b f Gt s i j g h k (above (form_at f s) e d))

  pub first_apart : (v : LeafValue) (f : Form) → IsPair A B v → IsForm v.variables f → IsLeafLike A (first_of v) (A.meet_form (first_of v) f Ne)
  first_apart v f p g = L.meet_form_answers (first_of v) f Ne p.first g

  pub second_apart : (v : LeafValue) (f : Form) → IsPair A B v → IsForm v.variables f → IsLeafLike B (second_of v) (B.meet_form (second_of v) f Ne)
  second_apart v f p g = K.meet_form_answers (second_of v) f Ne p.second g

  meet_form_answers : (v : LeafValue) (f : Form) (op : Compare) → IsPair A B v → IsForm v.variables f → IsLeafLike P v (compared A B v f op)
  meet_form_answers v f Lt p g = compared_like v (first_of v) (second_of v) f Lt (own_first v p) (own_second v p) g
  meet_form_answers v f Le p g = compared_like v (first_of v) (second_of v) f Le (own_first v p) (own_second v p) g
  meet_form_answers v f Gt p g = compared_like v (first_of v) (second_of v) f Gt (own_first v p) (own_second v p) g
  meet_form_answers v f Ge p g = compared_like v (first_of v) (second_of v) f Ge (own_first v p) (own_second v p) g
  meet_form_answers v f Eq p g = compared_like v (first_of v) (second_of v) f Eq (own_first v p) (own_second v p) g
  meet_form_answers v f Ne p g = either_like v (A.meet_form (first_of v) f Ne) (B.meet_form (second_of v) f Ne) f (first_apart v f p g) (second_apart v f p g) g

  meet_form_holds : (v : LeafValue) (f : Form) (op : Compare) (s : List ℤ) → IsPair A B v → IsForm v.variables f → HoldsBoth A B v s → holds_between op (form_at f s) (pos 0) ≡ true → HoldsBoth A B (compared A B v f op) s
  meet_form_holds v f Lt s p g h e = compared_holds v (first_of v) (second_of v) f Lt s (own_first v p) (own_second v p) g h.0 h.1 e
  meet_form_holds v f Le s p g h e = compared_holds v (first_of v) (second_of v) f Le s (own_first v p) (own_second v p) g h.0 h.1 e
  meet_form_holds v f Gt s p g h e = compared_holds v (first_of v) (second_of v) f Gt s (own_first v p) (own_second v p) g h.0 h.1 e
  meet_form_holds v f Ge s p g h e = compared_holds v (first_of v) (second_of v) f Ge s (own_first v p) (own_second v p) g h.0 h.1 e
  meet_form_holds v f Eq s p g h e = compared_holds v (first_of v) (second_of v) f Eq s (own_first v p) (own_second v p) g h.0 h.1 e
  meet_form_holds v f Ne s p g h e =
      either_holds v (A.meet_form (first_of v) f Ne) (B.meet_form (second_of v) f Ne) f s (first_apart v f p g) (second_apart v f p g) g
      (L.meet_form_holds (first_of v) f Ne s p.first g h.0 e) (K.meet_form_holds (second_of v) f Ne s p.second g h.1 e) e

  compared_nothing : (n : ℕ) (a b : LeafValue) (f : Form) (op : Compare) → a ≡ nothing_of n → both_compared A B a b f op ≡ nothing_of n
  compared_nothing n a b f op e = exchanges.exchanged_nothing A B L K (A.meet_form a f op) (B.meet_form b f op) n (ap (λ v. A.meet_form v f op) e ∙ L.meet_form_nothing n f op)

  meet_form_nothing : (n : ℕ) (f : Form) (op : Compare) → compared A B (nothing_of n) f op ≡ nothing_of n
  meet_form_nothing n f Lt = compared_nothing n (nothing_of n) (nothing_of n) f Lt refl
  meet_form_nothing n f Le = compared_nothing n (nothing_of n) (nothing_of n) f Le refl
  meet_form_nothing n f Gt = compared_nothing n (nothing_of n) (nothing_of n) f Gt refl
  meet_form_nothing n f Ge = compared_nothing n (nothing_of n) (nothing_of n) f Ge refl
  meet_form_nothing n f Eq = compared_nothing n (nothing_of n) (nothing_of n) f Eq refl
  meet_form_nothing n f Ne =
      let b = B.meet_form (nothing_of n) f Ne in
      let e = L.meet_form_nothing n f Ne in
      ap (λ v. joined A B v (both_compared A B (A.meet_form (nothing_of n) f Ne) b f Gt)) (compared_nothing n (A.meet_form (nothing_of n) f Ne) b f Lt e)
      ∙ compared_nothing n (A.meet_form (nothing_of n) f Ne) b f Gt e

  module _ (E : LeafExactness A) (F : LeafExactness B) where
    best_back : (a : LeafValue) (s : List ℤ) → IsPair A B a → HoldsBoth A B (P.best a) s → HoldsBoth A B a s
    best_back a s p h =
        let t = two_of a (A.best (first_of a)) (B.best (second_of a)) (L.best_answers (first_of a) p.first) (K.best_answers (second_of a) p.second) in
        let g = exchanges.exchanged_only A B L K E F (A.best (first_of a)) (B.best (second_of a)) s t h in
        ((L.best_holds (first_of a) s p.first).0 g.0, (K.best_holds (second_of a) s p.second).0 g.1)

    pub paired_laws : LeafLaws (paired A B)
    paired_laws = record {
      valid_few = λ a p. L.valid_few (first_of a) p.first;
      start_valid = λ s h i. pairs.pair_valid A B L K (A.start s) (B.start s) (L.start_valid s h i) (K.start_valid s h i) (start_same s);
      start_variables = λ s. L.start_variables s;
      start_holds = start_holds;
      nothing_valid = λ n h. pairs.nothing_pair A B L K n h;
      nothing_holds = λ n s h. L.nothing_holds n s h.0;
      holds_length = λ a s p h. L.holds_length (first_of a) s p.first h.0;
      best_answers = best_answers;
      best_holds = λ a s p. (best_back a s p, best_keeps a s p);
      best_nothing = λ n. exchanges.exchanged_is_nothing A B L K (A.best (nothing_of n)) (B.best (nothing_of n)) (L.best_nothing n);
      leq_holds = leq_holds;
      nothing_leq = nothing_leq;
      leq_nothing = leq_nothing;
      join_answers = join_answers;
      join_holds = join_holds;
      join_some = join_some;
      join_nothing = λ a. refl;
      nothing_join = nothing_join;
      widen_answers = widen_answers;
      widen_holds = widen_holds;
      widen_some = widen_some;
      widen_grows = widen_grows;
      steps_few = steps_few;
      narrow_answers = narrow_answers;
      narrow_holds = narrow_holds;
      narrow_nothing = narrow_nothing;
      bounds_in_int = λ a x p l. ranges.bounds_in_int (A.bounds_of (first_of a) x) (B.bounds_of (second_of a) x) (L.bounds_in_int (first_of a) x p.first l) (K.bounds_in_int (second_of a) x p.second l);
      bounds_hold = λ a x s p l h. ranges.bounds_have (A.bounds_of (first_of a) x) (B.bounds_of (second_of a) x) (at_store s x) (L.bounds_hold (first_of a) x s p.first l h.0) (K.bounds_hold (second_of a) x s p.second l h.1);
      bounds_some = λ a x p l e. ranges.bounds_some (A.bounds_of (first_of a) x) (B.bounds_of (second_of a) x) (L.bounds_some (first_of a) x p.first l (first_some a e));
      bounds_nothing = λ n x. ranges.bounds_empty (A.bounds_of (nothing_of n) x) (B.bounds_of (nothing_of n) x) (L.bounds_nothing n x);
      step_holds = λ a x s p l h. ranges.steps_from (both_bounds (A.bounds_of (first_of a) x) (B.bounds_of (second_of a) x)) (B.bounds_of (second_of a) x) (B.step_of (second_of a) x) (at_store s x) (K.step_holds (second_of a) x s p.second l h.1);
      form_holds = form_holds;
      form_nothing = form_nothing;
      meet_answers = λ a x r p l i. refined_answers a (A.meet_range (first_of a) x r) (B.meet_range (second_of a) x r) (L.meet_answers (first_of a) x r p.first l i) (K.meet_answers (second_of a) x r p.second l i);
      meet_holds = λ a x r s p l i h w. refined_holds a (A.meet_range (first_of a) x r) (B.meet_range (second_of a) x r) s
          (L.meet_answers (first_of a) x r p.first l i) (K.meet_answers (second_of a) x r p.second l i)
          (L.meet_holds (first_of a) x r s p.first l i h.0 w) (K.meet_holds (second_of a) x r s p.second l i h.1 w);
      meet_nothing = λ n x r. exchanges.exchanged_nothing A B L K (A.meet_range (nothing_of n) x r) (B.meet_range (nothing_of n) x r) n (L.meet_nothing n x r);
      meet_form_answers = meet_form_answers;
      meet_form_holds = meet_form_holds;
      meet_form_nothing = meet_form_nothing;
      set_answers = λ a x r p l i. refined_answers a (A.set_range (first_of a) x r) (B.set_range (second_of a) x r) (L.set_answers (first_of a) x r p.first l i) (K.set_answers (second_of a) x r p.second l i);
      set_holds = λ a x r s n p l i h w. refined_holds a (A.set_range (first_of a) x r) (B.set_range (second_of a) x r) (slice_set s x n)
          (L.set_answers (first_of a) x r p.first l i) (K.set_answers (second_of a) x r p.second l i)
          (L.set_holds (first_of a) x r s n p.first l i h.0 w) (K.set_holds (second_of a) x r s n p.second l i h.1 w);
      set_nothing = λ n x r. exchanges.exchanged_nothing A B L K (A.set_range (nothing_of n) x r) (B.set_range (nothing_of n) x r) n (L.set_nothing n x r);
      set_form_answers = λ a x f r p l g i. refined_answers a (A.set_form (first_of a) x f r) (B.set_form (second_of a) x f r)
          (L.set_form_answers (first_of a) x f r p.first l g i) (K.set_form_answers (second_of a) x f r p.second l g i);
      set_form_holds = λ a x f r s p l g i h w. refined_holds a (A.set_form (first_of a) x f r) (B.set_form (second_of a) x f r) (slice_set s x (form_at f s))
          (L.set_form_answers (first_of a) x f r p.first l g i) (K.set_form_answers (second_of a) x f r p.second l g i)
          (L.set_form_holds (first_of a) x f r s p.first l g i h.0 w) (K.set_form_holds (second_of a) x f r s p.second l g i h.1 w);
      set_form_nothing = λ n x f r. exchanges.exchanged_nothing A B L K (A.set_form (nothing_of n) x f r) (B.set_form (nothing_of n) x f r) n (L.set_form_nothing n x f r);
      operation_holds = operation_holds;
      meet_operation_answers = λ a d op r p o i. refined_answers a (A.meet_operation (first_of a) d op r) (B.meet_operation (second_of a) d op r)
          (L.meet_operation_answers (first_of a) d op r p.first o i) (K.meet_operation_answers (second_of a) d op r p.second o i);
      meet_operation_holds = λ a d op r s n m p o i h w v e. refined_holds a (A.meet_operation (first_of a) d op r) (B.meet_operation (second_of a) d op r) s
          (L.meet_operation_answers (first_of a) d op r p.first o i) (K.meet_operation_answers (second_of a) d op r p.second o i)
          (L.meet_operation_holds (first_of a) d op r s n m p.first o i h.0 w v e) (K.meet_operation_holds (second_of a) d op r s n m p.second o i h.1 w v e);
      meet_operation_nothing = λ n d op r. exchanges.exchanged_nothing A B L K (A.meet_operation (nothing_of n) d op r) (B.meet_operation (nothing_of n) d op r) n (L.meet_operation_nothing n d op r);
      set_operation_answers = λ a x d r p l o i. refined_answers a (A.set_operation (first_of a) x d r) (B.set_operation (second_of a) x d r)
          (L.set_operation_answers (first_of a) x d r p.first l o i) (K.set_operation_answers (second_of a) x d r p.second l o i);
      set_operation_holds = λ a x d r s n p l o i h w v. refined_holds a (A.set_operation (first_of a) x d r) (B.set_operation (second_of a) x d r) (slice_set s x n)
          (L.set_operation_answers (first_of a) x d r p.first l o i) (K.set_operation_answers (second_of a) x d r p.second l o i)
          (L.set_operation_holds (first_of a) x d r s n p.first l o i h.0 w v) (K.set_operation_holds (second_of a) x d r s n p.second l o i h.1 w v);
      set_operation_nothing = λ n x d r. exchanges.exchanged_nothing A B L K (A.set_operation (nothing_of n) x d r) (B.set_operation (nothing_of n) x d r) n (L.set_operation_nothing n x d r);
    }
