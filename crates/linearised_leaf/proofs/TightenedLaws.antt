-- What a linear form says of its terms, two by two and one by one, keeps each store.
use Rattle.std.proofs.Common.{◌≡◌, ◌⊎◌, inl, inr, ℕ, ◌<◌, ℤ, pos, negsuc, neg_ℤ, ◌+ℤ◌, ◌-ℤ◌, ◌≤ℤ◌, int_lt, Bool, true, false, not, ◌||◌, List, length, Option, Some, None, slice_set, refl, sym, subst, ◌∙◌, arith}
use Rattle.std.specs.Ordering.{int_eq}
use Rattle.std.proofs.lemmas.Int.{ints}
use Rattle.leaf_domain.specs.declared.form.Form.{Form}
use Rattle.leaf_domain.specs.declared.compare.Compare.{Compare}
use Rattle.leaf_domain.specs.declared.compare.Compare.TheVariants.{Lt, Le, Gt, Ge, Eq, Ne}
use Rattle.leaf_domain.specs.Compares.{holds_between}
use Rattle.leaf_domain.specs.Forms.{IsForm, form_at, terms_at, multiple_form}
use Rattle.leaf_domain.specs.Sums.{HasForm}
use Rattle.leaf_domain.specs.Leaves.{LeafValue, LeafMeaning, LeafLaws, Alike, IsLeafLike, nothing_of, is_nothing_of, at_store}
use Rattle.paired_leaf.proofs.PairLemmas.{of_either}
use Rattle.linearised_leaf.specs.Sides.{side_met}
use Rattle.linearised_leaf.specs.Differences.{set_met}
use Rattle.linearised_leaf.specs.Tightened.{side_of, other_side_met, sides_met, is_octagonal, tightened, has_variable, form_less_variable, tightened_where, tightened_set}
use Rattle.linearised_leaf.proofs.SideLaws.{side_like, side_holds}
use Rattle.linearised_leaf.proofs.FormLaws.{negated_is, negated_value, less_is, less_value}
use Rattle.linearised_leaf.proofs.Stores.{set_at, terms_other}
use Rattle.linearised_leaf.proofs.DifferenceLaws.{set_met_nothing}

module _ (M : LeafMeaning) (L : LeafLaws M) where
  pub own : (v : LeafValue) → M.valid v → IsLeafLike M v v
  own v p = record { valid = p; same = refl }

  pub then_like : (v w u : LeafValue) → IsLeafLike M v w → IsLeafLike M w u → IsLeafLike M v u
  then_like v w u i j = record { valid = j.valid; same = j.same ∙ i.same }

  -- ---- the other side
  pub other_like : (v : LeafValue) (f : Form) (n : ℤ) → M.valid v → IsForm v.variables f → IsLeafLike M v (other_side_met M v f n)
  other_like v f n p i = by_form (multiple_form (negsuc 0) (Some f)) refl
    where
      by_form : (o : Option Form) → multiple_form (negsuc 0) (Some f) ≡ o → IsLeafLike M v (side_of M v o n)
      by_form None e = own v p
      by_form (Some g) e = side_like M L v p g n (negated_is v.variables f g i e)

  other_holds : (v : LeafValue) (f : Form) (n : ℤ) (s : List ℤ) → M.valid v → IsForm v.variables f → M.holds v s → (neg_ℤ (form_at f s) +ℤ n) ≤ℤ pos 0 → M.holds (other_side_met M v f n) s
  other_holds v f n s p i h c = by_form (multiple_form (negsuc 0) (Some f)) refl
    where
      by_form : (o : Option Form) → multiple_form (negsuc 0) (Some f) ≡ o → M.holds (side_of M v o n) s
      by_form None e = h
      by_form (Some g) e = side_holds M L v p g n s (negated_is v.variables f g i e) h (subst (λ k. (k +ℤ n) ≤ℤ pos 0) (sym (negated_value f g s e)) c)

  -- ---- both
  pub sides_alike : (v : LeafValue) (f : Form) → M.valid v → IsForm v.variables f → Alike M (side_met M v f (pos 1)) (other_side_met M v f (pos 1))
  sides_alike v f p i =
      let a = side_like M L v p f (pos 1) i in
      let b = other_like v f (pos 1) p i in
      record { first = a.valid; second = b.valid; same = a.same ∙ sym b.same }

  pub over : (v w : LeafValue) (f : Form) → IsLeafLike M v w → IsForm v.variables f → IsForm w.variables f
  over v w f j i = subst (λ n. IsForm n f) (sym j.same) i

  pub sides_like : (v : LeafValue) (f : Form) (op : Compare) → M.valid v → IsForm v.variables f → IsLeafLike M v (sides_met M v f op)
  unfolding sides_met
  sides_like v f Lt p i = side_like M L v p f (pos 1) i
  sides_like v f Le p i = side_like M L v p f (pos 0) i
  sides_like v f Gt p i = other_like v f (pos 1) p i
  sides_like v f Ge p i = other_like v f (pos 0) p i
  sides_like v f Eq p i =
      let j = side_like M L v p f (pos 0) i in
      then_like v (side_met M v f (pos 0)) (other_side_met M (side_met M v f (pos 0)) f (pos 0)) j (other_like (side_met M v f (pos 0)) f (pos 0) j.valid (over v (side_met M v f (pos 0)) f j i))
  sides_like v f Ne p i =
      let a = side_met M v f (pos 1) in
      let b = other_side_met M v f (pos 1) in
      then_like v a (M.join a b) (side_like M L v p f (pos 1) i) (L.join_answers a b (sides_alike v f p i))

  pub sides_hold : (v : LeafValue) (f : Form) (op : Compare) (s : List ℤ) → M.valid v → IsForm v.variables f → M.holds v s → holds_between op (form_at f s) (pos 0) ≡ true → M.holds (sides_met M v f op) s
  unfolding sides_met
  sides_hold v f Lt s p i h e = side_holds M L v p f (pos 1) s i h (below (form_at f s) e)
    where
      below : (n : ℤ) → holds_between Lt n (pos 0) ≡ true → (n +ℤ pos 1) ≤ℤ pos 0
      below n e = omega (arith, ints)
  sides_hold v f Le s p i h e = side_holds M L v p f (pos 0) s i h (below (form_at f s) e)
    where
      below : (n : ℤ) → holds_between Le n (pos 0) ≡ true → (n +ℤ pos 0) ≤ℤ pos 0
      below n e = omega (arith, ints)
  sides_hold v f Gt s p i h e = other_holds v f (pos 1) s p i h (above (form_at f s) e)
    where
      above : (n : ℤ) → holds_between Gt n (pos 0) ≡ true → (neg_ℤ n +ℤ pos 1) ≤ℤ pos 0
      above n e = omega (arith, ints)
  sides_hold v f Ge s p i h e = other_holds v f (pos 0) s p i h (above (form_at f s) e)
    where
      above : (n : ℤ) → holds_between Ge n (pos 0) ≡ true → (neg_ℤ n +ℤ pos 0) ≤ℤ pos 0
      above n e = omega (arith, ints)
  sides_hold v f Eq s p i h e =
      let j = side_like M L v p f (pos 0) i in
      other_holds (side_met M v f (pos 0)) f (pos 0) s j.valid (over v (side_met M v f (pos 0)) f j i) (side_holds M L v p f (pos 0) s i h (below (form_at f s) e)) (above (form_at f s) e)
    where
      zero_of : (n : ℤ) → int_eq n (pos 0) ≡ true → n ≡ pos 0
      zero_of n e = grind (arith, ints)

      below : (n : ℤ) → int_eq n (pos 0) ≡ true → (n +ℤ pos 0) ≤ℤ pos 0
      below n e = omega (arith, ints, zero_of n e)

      above : (n : ℤ) → int_eq n (pos 0) ≡ true → (neg_ℤ n +ℤ pos 0) ≤ℤ pos 0
      above n e = omega (arith, ints, zero_of n e)
  sides_hold v f Ne s p i h e = L.join_holds (side_met M v f (pos 1)) (other_side_met M v f (pos 1)) s (sides_alike v f p i) (by_test (int_lt (form_at f s) (pos 0)) refl)
    where
      below : (n : ℤ) → int_lt n (pos 0) ≡ true → (n +ℤ pos 1) ≤ℤ pos 0
      below n e = omega (arith, ints)

      above : (n : ℤ) → not (int_eq n (pos 0)) ≡ true → int_lt n (pos 0) ≡ false → (neg_ℤ n +ℤ pos 1) ≤ℤ pos 0
      above n e d = grind (arith, ints)

      by_test : (t : Bool) → int_lt (form_at f s) (pos 0) ≡ t → M.holds (side_met M v f (pos 1)) s ⊎ M.holds (other_side_met M v f (pos 1)) s
      by_test true d = inl (side_holds M L v p f (pos 1) s i h (below (form_at f s) d))
      by_test false d = inr (other_holds v f (pos 1) s p i h (above (form_at f s) e d))

  -- ---- where it is worth it
  pub tightened_like : (v : LeafValue) (f : Form) (op : Compare) → M.valid v → IsForm v.variables f → IsLeafLike M v (tightened M v f op)
  tightened_like v f op p i = of_either (IsLeafLike M v) (is_nothing_of v || is_octagonal f.terms) v (sides_met M v f op) (own v p) (sides_like v f op p i)

  pub tightened_holds : (v : LeafValue) (f : Form) (op : Compare) (s : List ℤ) → M.valid v → IsForm v.variables f → M.holds v s → holds_between op (form_at f s) (pos 0) ≡ true → M.holds (tightened M v f op) s
  tightened_holds v f op s p i h e = of_either (λ w. M.holds w s) (is_nothing_of v || is_octagonal f.terms) v (sides_met M v f op) h (sides_hold v f op s p i h e)

  pub tightened_nothing : (v : LeafValue) (n : ℕ) (f : Form) (op : Compare) → v ≡ nothing_of n → tightened M v f op ≡ nothing_of n
  tightened_nothing v n f op e = subst (λ w. tightened M w f op ≡ nothing_of n) (sym e) refl

  -- ---- assignments
  pub where_like : (v : LeafValue) (o : Option Form) → M.valid v → HasForm v.variables o → IsLeafLike M v (tightened_where M v o)
  where_like v None p i = own v p
  where_like v (Some g) p i = tightened_like v g Eq p i

  pub where_holds : (v : LeafValue) (x : ℕ) (f : Form) (s : List ℤ) → M.valid v → x < v.variables → IsForm v.variables f → x < length s → has_variable x f.terms ≡ false → M.holds v (slice_set s x (form_at f s))
      → M.holds (tightened_where M v (form_less_variable x f)) (slice_set s x (form_at f s))
  where_holds v x f s p l i k d h = by_form (form_less_variable x f) refl
    where
      S : List ℤ
      S = slice_set s x (form_at f s)

      zero_at : (g : Form) → form_less_variable x f ≡ Some g → holds_between Eq (form_at g S) (pos 0) ≡ true
      zero_at g e =
          is_zero (form_at g S) (terms_at f.terms S) f.constant (at_store S x) (terms_at f.terms s) (less_value x f g S e) (terms_other f.terms s x (form_at f s) d) (set_at s x (form_at f s) k)
        where
          is_zero : (a t c w u : ℤ) → a ≡ (t +ℤ c) -ℤ w → t ≡ u → w ≡ u +ℤ c → int_eq a (pos 0) ≡ true
          is_zero a t c w u e g h = let z : a ≡ pos 0 = omega (arith, ints, e, g, h) in grind (arith, ints)

      by_form : (o : Option Form) → form_less_variable x f ≡ o → M.holds (tightened_where M v o) S
      by_form None e = h
      by_form (Some g) e = tightened_holds v g Eq S p (less_is v.variables x f g l i e) h (zero_at g e)

  where_nothing : (v : LeafValue) (n : ℕ) (o : Option Form) → v ≡ nothing_of n → tightened_where M v o ≡ nothing_of n
  where_nothing v n None e = e
  where_nothing v n (Some f) e = tightened_nothing v n f Eq e

  pub set_nothing : (v w : LeafValue) (n x : ℕ) (f : Form) → w ≡ nothing_of n → tightened_set M v x f w ≡ nothing_of n
  set_nothing v w n x f e = of_either (λ u. u ≡ nothing_of n) (has_variable x f.terms) (set_met M v x f w) (tightened_where M w (form_less_variable x f)) (set_met_nothing M v w n x f e) (where_nothing w n (form_less_variable x f) e)

  -- ---- as many variables
  pub counted : (a b : LeafValue) (x : ℕ) → IsLeafLike M a b → x < a.variables → x < b.variables
  counted a b x j l = subst (λ n. x < n) (sym j.same) l
