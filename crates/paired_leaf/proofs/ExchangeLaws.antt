-- Two leaves that refine each other hold the stores that both hold.
use Rattle.std.proofs.Common.{◌≡◌, ℕ, zero, suc, ◌+◌, ◌<◌, ◌≤◌, ℤ, Bool, true, false, ◌||◌, if◌then◌else◌, List, refl, ap, sym, subst, ◌∙◌, arith}
use Rattle.leaf_domain.specs.declared.range.Range.{Range}
use Rattle.leaf_domain.specs.Ranges.{Within, IsInInt}
use Rattle.leaf_domain.specs.Leaves.{LeafValue, LeafMeaning, LeafLaws, IsLeafLike, nothing_of, is_nothing_of, at_store}
use Rattle.leaf_domain.specs.Exactness.{LeafExactness}
use Rattle.paired_leaf.specs.Pairs.{pair_of, IsPair, HoldsBoth}
use Rattle.paired_leaf.specs.Exchange.{is_tighter, limited_at, limited_below, limited, refined_first, refined_second, exchanged}
use Rattle.paired_leaf.proofs.PairLemmas.{of_either, some_held, pair_holds, pair_only, pair_valid, nothing_pair}

-- ---- one leaf by the ranges of another
module _ (M N : LeafMeaning) (L : LeafLaws M) (K : LeafLaws N) where
  pub at_like : (v : LeafValue) (x : ℕ) (r : Range) → M.valid v → x < v.variables → IsInInt r → IsLeafLike M v (limited_at M v x r)
  at_like v x r p l i = of_either (IsLeafLike M v) (is_tighter r (M.bounds_of v x)) (M.meet_range v x r) v (L.meet_answers v x r p l i) (record { valid = p; same = refl })

  pub at_holds : (v : LeafValue) (x : ℕ) (r : Range) (s : List ℤ) → M.valid v → x < v.variables → IsInInt r → M.holds v s → Within (at_store s x) r → M.holds (limited_at M v x r) s
  at_holds v x r s p l i h w = of_either (λ u. M.holds u s) (is_tighter r (M.bounds_of v x)) (M.meet_range v x r) v (L.meet_holds v x r s p l i h w) h

  below_step : (v u : LeafValue) (k : ℕ) → suc k ≤ v.variables → u.variables ≡ v.variables → k < u.variables
  below_step v u k h e = omega (arith, h, e)

  below_like : (v w : LeafValue) → M.valid v → N.valid w → v.variables ≡ w.variables → (k : ℕ) → k ≤ v.variables → IsLeafLike M v (limited_below M N v w k)
  unfolding limited_below
  below_like v w p q e zero h = record { valid = p; same = refl }
  below_like v w p q e (suc k) h =
      let i : IsLeafLike M v (limited_below M N v w k) = below_like v w p q e k (omega (arith, h)) in
      let l : k < w.variables = omega (arith, h, e) in
      let j = at_like (limited_below M N v w k) k (N.bounds_of w k) i.valid (below_step v (limited_below M N v w k) k h i.same) (K.bounds_in_int w k q l) in
      record { valid = j.valid; same = j.same ∙ i.same }

  below_holds : (v w : LeafValue) (s : List ℤ) → M.valid v → N.valid w → v.variables ≡ w.variables → M.holds v s → N.holds w s → (k : ℕ) → k ≤ v.variables → M.holds (limited_below M N v w k) s
  unfolding limited_below
  below_holds v w s p q e h g zero m = h
  below_holds v w s p q e h g (suc k) m =
      let n : k ≤ v.variables = omega (arith, m) in
      let i : IsLeafLike M v (limited_below M N v w k) = below_like v w p q e k n in
      let l : k < w.variables = omega (arith, m, e) in
      at_holds (limited_below M N v w k) k (N.bounds_of w k) s i.valid (below_step v (limited_below M N v w k) k m i.same) (K.bounds_in_int w k q l)
      (below_holds v w s p q e h g k n) (K.bounds_hold w k s q l g)

  pub limited_like : (v w : LeafValue) → M.valid v → N.valid w → v.variables ≡ w.variables → IsLeafLike M v (limited M N v w)
  limited_like v w p q e = below_like v w p q e v.variables (omega arith)

  pub limited_holds : (v w : LeafValue) (s : List ℤ) → M.valid v → N.valid w → v.variables ≡ w.variables → M.holds v s → N.holds w s → M.holds (limited M N v w) s
  limited_holds v w s p q e h g = below_holds v w s p q e h g v.variables (omega arith)

  module _ (E : LeafExactness M) where
    pub at_only : (v : LeafValue) (x : ℕ) (r : Range) (s : List ℤ) → M.valid v → x < v.variables → IsInInt r → M.holds (limited_at M v x r) s → M.holds v s
    at_only v x r s p l i =
        of_either (λ u. M.holds u s → M.holds v s) (is_tighter r (M.bounds_of v x)) (M.meet_range v x r) v (λ h. (E.meet_only v x r s p l i h).0) (λ h. h)

    below_only : (v w : LeafValue) (s : List ℤ) → M.valid v → N.valid w → v.variables ≡ w.variables → (k : ℕ) → k ≤ v.variables → M.holds (limited_below M N v w k) s → M.holds v s
    unfolding limited_below
    below_only v w s p q e zero m h = h
    below_only v w s p q e (suc k) m h =
        let n : k ≤ v.variables = omega (arith, m) in
        let i : IsLeafLike M v (limited_below M N v w k) = below_like v w p q e k n in
        let l : k < w.variables = omega (arith, m, e) in
        below_only v w s p q e k n
        (at_only (limited_below M N v w k) k (N.bounds_of w k) s i.valid (below_step v (limited_below M N v w k) k m i.same) (K.bounds_in_int w k q l) h)

    pub limited_only : (v w : LeafValue) (s : List ℤ) → M.valid v → N.valid w → v.variables ≡ w.variables → M.holds (limited M N v w) s → M.holds v s
    limited_only v w s p q e h = below_only v w s p q e v.variables (omega arith) h

-- ---- steps
module _ (M N : LeafMeaning) where
  pub below_none : (v w : LeafValue) → limited_below M N v w 0 ≡ v
  unfolding limited_below
  below_none v w = refl

  pub below_next : (v w : LeafValue) (k : ℕ) → limited_below M N v w (k + 1) ≡ limited_at M (limited_below M N v w k) k (N.bounds_of w k)
  unfolding limited_below
  below_next v w k = let e : k + 1 ≡ suc k = omega arith in ap (λ i. limited_below M N v w i) e

module _ (A B : LeafMeaning) where
  pub exchanged_none : (a b : LeafValue) → (is_nothing_of a || is_nothing_of b) ≡ true → exchanged A B a b ≡ nothing_of a.variables
  unfolding exchanged
  exchanged_none a b e =
      let P : Bool → Type 0 = λ t. (if t then nothing_of a.variables else pair_of (refined_first A B a b) (refined_second A B a b)) ≡ nothing_of a.variables in
      subst P (sym e) refl

  pub exchanged_some : (a b c d e : LeafValue) → (is_nothing_of a || is_nothing_of b) ≡ false → d ≡ limited B A b a → c ≡ limited A B a d → e ≡ limited B A d c → pair_of c e ≡ exchanged A B a b
  unfolding exchanged refined_first refined_second
  exchanged_some a b c d e n p q r =
      let P : Bool → Type 0 = λ t. pair_of c e ≡ (if t then nothing_of a.variables else pair_of (refined_first A B a b) (refined_second A B a b)) in
      subst P (sym n)
      (ap (λ z. pair_of c z) r ∙ ap (λ y. pair_of y (limited B A d y)) q ∙ ap (λ x. pair_of (limited A B a x) (limited B A x (limited A B a x))) p)

-- ---- both
module _ (A B : LeafMeaning) (L : LeafLaws A) (K : LeafLaws B) where
  -- two leaves with as many variables
  pub record AreTwo (a b : LeafValue) : Type 0 where
    pub first : A.valid a
    pub second : B.valid b
    pub same : a.variables ≡ b.variables

  -- what they are once they have refined each other
  pub record AreRefined (a b c d : LeafValue) : Type 0 where
    pub first : IsLeafLike A a c
    pub second : IsLeafLike B b d

  pub refined_like : (a b : LeafValue) → AreTwo a b → AreRefined a b (refined_first A B a b) (refined_second A B a b)
  unfolding refined_first refined_second
  refined_like a b t =
      let d = limited B A b a in
      let i : IsLeafLike B b d = limited_like B A K L b a t.second t.first (sym t.same) in
      let j : IsLeafLike A a (refined_first A B a b) = limited_like A B L K a d t.first i.valid (t.same ∙ sym i.same) in
      let k = limited_like B A K L d (refined_first A B a b) i.valid j.valid (i.same ∙ sym t.same ∙ sym j.same) in
      record { first = j; second = record { valid = k.valid; same = k.same ∙ i.same } }

  refined_same : (a b : LeafValue) → AreTwo a b → (refined_first A B a b).variables ≡ (refined_second A B a b).variables
  refined_same a b t = let r = refined_like a b t in r.first.same ∙ t.same ∙ sym r.second.same

  refined_holds : (a b : LeafValue) (s : List ℤ) → AreTwo a b → A.holds a s → B.holds b s → A.holds (refined_first A B a b) s × B.holds (refined_second A B a b) s
  unfolding refined_first refined_second
  refined_holds a b s t h g =
      let d = limited B A b a in
      let i : IsLeafLike B b d = limited_like B A K L b a t.second t.first (sym t.same) in
      let j : IsLeafLike A a (refined_first A B a b) = limited_like A B L K a d t.first i.valid (t.same ∙ sym i.same) in
      let k : B.holds d s = limited_holds B A K L b a s t.second t.first (sym t.same) g h in
      let m : A.holds (refined_first A B a b) s = limited_holds A B L K a d s t.first i.valid (t.same ∙ sym i.same) h k in
      (m, limited_holds B A K L d (refined_first A B a b) s i.valid j.valid (i.same ∙ sym t.same ∙ sym j.same) k m)

  -- ---- the pair
  pub exchanged_like : (v a b : LeafValue) → AreTwo a b → a.variables ≡ v.variables → IsPair A B (exchanged A B a b) × ((exchanged A B a b).variables ≡ v.variables)
  unfolding exchanged
  exchanged_like v a b t e =
      let r = refined_like a b t in
      of_either (λ u. IsPair A B u × (u.variables ≡ v.variables)) (is_nothing_of a || is_nothing_of b) (nothing_of a.variables) (pair_of (refined_first A B a b) (refined_second A B a b))
      (nothing_pair A B L K a.variables (L.valid_few a t.first), e)
      (pair_valid A B L K (refined_first A B a b) (refined_second A B a b) r.first.valid r.second.valid (refined_same a b t), r.first.same ∙ e)

  pub exchanged_holds : (a b : LeafValue) (s : List ℤ) → AreTwo a b → A.holds a s → B.holds b s → HoldsBoth A B (exchanged A B a b) s
  unfolding exchanged
  exchanged_holds a b s t h g =
      let m = refined_holds a b s t h g in
      let P : Bool → Type 0 = λ p. HoldsBoth A B (if p then nothing_of a.variables else pair_of (refined_first A B a b) (refined_second A B a b)) s in
      subst P (sym (neither (is_nothing_of a) (is_nothing_of b) (some_held A L a s h) (some_held B K b s g)))
      (pair_holds A B L K (refined_first A B a b) (refined_second A B a b) s (refined_same a b t) m.0 m.1)
    where
      neither : (p q : Bool) → p ≡ false → q ≡ false → (p || q) ≡ false
      neither true q e f = cc
      neither false q e f = f

  pub exchanged_nothing : (a b : LeafValue) (n : ℕ) → a ≡ nothing_of n → exchanged A B a b ≡ nothing_of n
  unfolding exchanged
  exchanged_nothing a b n e = subst (λ v. exchanged A B v b ≡ nothing_of n) (sym e) refl

  pub exchanged_is_nothing : (a b : LeafValue) → is_nothing_of a ≡ true → is_nothing_of (exchanged A B a b) ≡ true
  unfolding exchanged
  exchanged_is_nothing a b e =
      let P : Bool → Type 0 = λ p. is_nothing_of (if p || is_nothing_of b then nothing_of a.variables else pair_of (refined_first A B a b) (refined_second A B a b)) ≡ true in
      subst P (sym e) refl

  module _ (E : LeafExactness A) (F : LeafExactness B) where
    pub first_only : (a b : LeafValue) (s : List ℤ) → AreTwo a b → A.holds (refined_first A B a b) s → A.holds a s
    unfolding refined_first
    first_only a b s t h =
        let i : IsLeafLike B b (limited B A b a) = limited_like B A K L b a t.second t.first (sym t.same) in
        limited_only A B L K E a (limited B A b a) s t.first i.valid (t.same ∙ sym i.same) h

    pub second_only : (a b : LeafValue) (s : List ℤ) → AreTwo a b → B.holds (refined_second A B a b) s → B.holds b s
    unfolding refined_first refined_second
    second_only a b s t h =
        let d = limited B A b a in
        let i : IsLeafLike B b d = limited_like B A K L b a t.second t.first (sym t.same) in
        let j : IsLeafLike A a (refined_first A B a b) = limited_like A B L K a d t.first i.valid (t.same ∙ sym i.same) in
        limited_only B A K L F b a s t.second t.first (sym t.same) (limited_only B A K L F d (refined_first A B a b) s i.valid j.valid (i.same ∙ sym t.same ∙ sym j.same) h)

    pub exchanged_only : (a b : LeafValue) (s : List ℤ) → AreTwo a b → HoldsBoth A B (exchanged A B a b) s → A.holds a s × B.holds b s
    unfolding exchanged
    exchanged_only a b s t =
        of_either (λ u. HoldsBoth A B u s → A.holds a s × B.holds b s) (is_nothing_of a || is_nothing_of b) (nothing_of a.variables) (pair_of (refined_first A B a b) (refined_second A B a b))
        (λ h. absurd (L.nothing_holds a.variables s h.0))
        (λ h.
        let g = pair_only A B L K (refined_first A B a b) (refined_second A B a b) s (refined_same a b t) h in
        (first_only a b s t g.0, second_only a b s t g.1))
