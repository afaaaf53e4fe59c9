-- What the meets after an assignment of a form that has the variable itself keep: by one principle, whatever each of these meets keeps.
use Rattle.std.proofs.Common.{◌≡◌, ◌≢◌, ℕ, nat_eq, nat_lt, ◌+◌, ◌<◌, ◌≤◌, ℤ, pos, negsuc, neg_ℤ, ◌+ℤ◌, ◌-ℤ◌, ◌*ℤ◌, ◌≤ℤ◌, int_le, Bool, true, false, not, ◌&&◌, if◌then◌else◌, List, [], ◌∷◌, Option, Some, None, IfSome, slice_set, refl, ap, sym, subst, ◌∙◌, arith}
use Rattle.std.proofs.lemmas.Int.{ints}
use Rattle.std.proofs.lemmas.Bool.Decides.{nat_tests}
use Rattle.leaf_domain.specs.declared.form.Form.{Form}
use Rattle.leaf_domain.specs.declared.compare.Compare.TheVariants.{Le}
use Rattle.leaf_domain.specs.Forms.{AreTerms, IsForm, IsFormNumber, form_at, terms_at, is_form_number, multiple_form}
use Rattle.leaf_domain.specs.Sums.{kept_number}
use Rattle.leaf_domain.specs.Leaves.{LeafValue, LeafMeaning, LeafLaws, IsLeafLike, nothing_of, is_nothing_of}
use Rattle.leaf_domain.proofs.FormLemmas.{number_is}
use Rattle.paired_leaf.proofs.PairLemmas.{of_either}
use Rattle.linearised_leaf.specs.LeastValues.{least_term, least_terms}
use Rattle.linearised_leaf.specs.Sides.{is_unit, two_terms, is_never_above, met_pair}
use Rattle.linearised_leaf.specs.Differences.{is_other_unit, met_in_order, difference_met, differences_met, form_met, negated_met, set_met}
use Rattle.linearised_leaf.proofs.FormLaws.{negated_is, negated_value}
use Rattle.linearised_leaf.proofs.Stores.{set_at, set_other, differs}
use Rattle.linearised_leaf.proofs.Terms.{value_of, terms_least, Least, IsPart, whole_part, first_part, rest_part}

-- a term that stands alone
pub term_alone : (from count : ℕ) (t : ℕ × ℤ) (ts : List (ℕ × ℤ)) → AreTerms from count (t ∷ ts) → AreTerms 0 count (t ∷ [])
term_alone from count t ts a = (omega arith, a.1, a.2, a.3, tt)

-- two terms of different variables, the lower one first, and a number of a form
in_order_form : (count : ℕ) (t u : ℕ × ℤ) (n : ℤ) → AreTerms 0 count (t ∷ []) → AreTerms 0 count (u ∷ []) → nat_lt t.0 u.0 ≡ true → IsFormNumber n → IsForm count (two_terms t u n)
in_order_form count t u n a b e i = record { terms = (omega arith, a.1, a.2, a.3, (below t.0 u.0 e, b.1, b.2, b.3, tt)); constant = i }
  where
    below : (x y : ℕ) → nat_lt x y ≡ true → x + 1 ≤ y
    below x y e = grind (arith, nat_tests)

pub in_order_has : (count : ℕ) (t u : ℕ × ℤ) (o : Option ℤ) → AreTerms 0 count (t ∷ []) → AreTerms 0 count (u ∷ []) → nat_lt t.0 u.0 ≡ true → IfSome o IsFormNumber → IfSome o (λ n. IsForm count (two_terms t u n))
in_order_has count t u None a b e i = tt
in_order_has count t u (Some n) a b e i = in_order_form count t u n a b e i

pub other_order : (x y : ℕ) → x ≢ y → nat_lt x y ≡ false → nat_lt y x ≡ true
other_order x y d e = grind (arith, nat_tests)

pub other_is : (x : ℕ) (t : ℕ × ℤ) → is_other_unit x t ≡ true → x ≢ t.0
other_is x t e = differs x t.0 (by_test (nat_eq x t.0) (is_unit t.1) e)
  where
    by_test : (p q : Bool) → (not p && q) ≡ true → p ≡ false
    by_test true q e = cc
    by_test false q e = refl

module _ (M : LeafMeaning) (L : LeafLaws M) (v : LeafValue) (p : M.valid v) (x : ℕ) (f : Form) where
  -- a store with the variable set to the form
  abbrev pub after : List ℤ → List ℤ
  after s = slice_set s x (form_at f s)

  -- a form that is at most 0 once the variable has been set
  pub record FollowsSet (g : Form) : Type 0 where
    pub form : IsForm v.variables g
    pub below : (s : List ℤ) → M.holds v s → form_at g (after s) ≤ℤ pos 0

  -- what stays so when a leaf is met with such a form
  pub record IsSetKept (R : LeafValue → Type 0) : Type 0 where
    pub form : (w : LeafValue) (g : Form) → R w → FollowsSet g → R (M.meet_form w g Le)

  module _ (R : LeafValue → Type 0) (K : IsSetKept R) where
    pair_kept : (t u : ℕ × ℤ) (n : ℤ) (w : LeafValue) → (is_form_number n ≡ true → FollowsSet (two_terms t u n)) → R w → R (met_pair M w (kept_number n) t u)
    pair_kept t u n w k r = by_test (is_form_number n) refl
      where
        by_test : (c : Bool) → is_form_number n ≡ c → R (met_pair M w (if c then Some n else None) t u)
        by_test true i = of_either R (is_never_above (M.form_range w (two_terms t u n))) w (M.meet_form w (two_terms t u n) Le) r (K.form w (two_terms t u n) r (k i))
        by_test false i = r

    in_order_kept : (t u : ℕ × ℤ) (n : ℤ) (w : LeafValue) → AreTerms 0 v.variables (t ∷ []) → AreTerms 0 v.variables (u ∷ []) → t.0 ≢ u.0
        → ((s : List ℤ) → M.holds v s → ((value_of t (after s) +ℤ value_of u (after s)) +ℤ n) ≤ℤ pos 0) → R w → R (met_in_order M w (kept_number n) t u)
    in_order_kept t u n w a b d h r = by_test (nat_lt t.0 u.0) refl
      where
        first : (m o n : ℤ) → ((m +ℤ o) +ℤ n) ≤ℤ pos 0 → ((m +ℤ (o +ℤ pos 0)) +ℤ n) ≤ℤ pos 0
        first m o n h = omega (arith, ints, h)

        second : (m o n : ℤ) → ((m +ℤ o) +ℤ n) ≤ℤ pos 0 → ((o +ℤ (m +ℤ pos 0)) +ℤ n) ≤ℤ pos 0
        second m o n h = omega (arith, ints, h)

        by_test : (c : Bool) → nat_lt t.0 u.0 ≡ c → R (if c then met_pair M w (kept_number n) t u else met_pair M w (kept_number n) u t)
        by_test true e = pair_kept t u n w (λ i. record { form = in_order_form v.variables t u n a b e (number_is n i); below = λ s k. first (value_of t (after s)) (value_of u (after s)) n (h s k) }) r
        by_test false e =
            pair_kept u t n w
            (λ i. record { form = in_order_form v.variables u t n b a (other_order t.0 u.0 d e) (number_is n i); below = λ s k. second (value_of t (after s)) (value_of u (after s)) n (h s k) })
            r

    -- a form that is the negation of a multiple of the variable once that is set
    module _ (l : x < v.variables) (e : ℤ) (o : AreTerms 0 v.variables ((x, e) ∷ [])) (g : Form) (opposite : (s : List ℤ) → form_at g s ≡ neg_ℤ (e *ℤ form_at f s)) where
      abbrev N : ℤ
      N = Least M L v p g (pos 0)

      at_most : (from : ℕ) (t : ℕ × ℤ) (ts : List (ℕ × ℤ)) (s : List ℤ) → AreTerms from v.variables (t ∷ ts) → IsPart M L v p g (pos 0) (t ∷ ts) → x ≢ t.0 → M.holds v s
          → ((value_of (x, e) (after s) +ℤ value_of t (after s)) +ℤ (N -ℤ least_term M v t)) ≤ℤ pos 0
      at_most from t ts s a q d h =
          ends (value_of (x, e) (after s)) (e *ℤ form_at f s) (value_of t (after s)) (value_of t s) (least_term M v t) (terms_at ts s) (least_terms M v ts) N (form_at g s)
          (ap (λ n. e *ℤ n) (set_at s x (form_at f s) (subst (λ n. x < n) (sym (L.holds_length v s p h)) l))) (ap (λ n. t.1 *ℤ n) (set_other s x t.0 (form_at f s) d))
          (opposite s) (terms_least M L v p (t.0 + 1) ts s a.4 h) (first_part M L v p g (pos 0) t ts q s h)
        where
          ends : (m k o b c y z n w : ℤ) → m ≡ k → o ≡ b → w ≡ neg_ℤ k → z ≤ℤ y → ((n +ℤ (b -ℤ c)) +ℤ (y -ℤ z)) ≤ℤ (w +ℤ pos 0) → ((m +ℤ o) +ℤ (n -ℤ c)) ≤ℤ pos 0
          ends m k o b c y z n w d e f g h = omega (arith, ints, d, e, f, g, h)

      difference_kept : (from : ℕ) (t : ℕ × ℤ) (ts : List (ℕ × ℤ)) (w : LeafValue) → AreTerms from v.variables (t ∷ ts) → IsPart M L v p g (pos 0) (t ∷ ts) → R w → R (difference_met M v N (x, e) t w)
      difference_kept from t ts w a q r = by_test (is_other_unit x t) refl
        where
          by_test : (c : Bool) → is_other_unit x t ≡ c → R (if c then met_in_order M w (kept_number (N -ℤ least_term M v t)) (x, e) t else w)
          by_test true c = in_order_kept (x, e) t (N -ℤ least_term M v t) w o (term_alone from v.variables t ts a) (other_is x t c) (λ s h. at_most from t ts s a q (other_is x t c) h) r
          by_test false c = r

      differences_kept : (from : ℕ) (ts : List (ℕ × ℤ)) (w : LeafValue) → AreTerms from v.variables ts → IsPart M L v p g (pos 0) ts → R w → R (differences_met M v N (x, e) ts w)
      differences_kept from [] w a q r = r
      differences_kept from (t ∷ ts) w a q r = differences_kept (t.0 + 1) ts (difference_met M v N (x, e) t w) a.4 (rest_part M L v p g (pos 0) t ts a.1 q) (difference_kept from t ts w a q r)

      form_kept : (w : LeafValue) → IsForm v.variables g → R w → R (form_met M v (x, e) g w)
      form_kept w i r = differences_kept 0 g.terms w i.terms (whole_part M L v p g (pos 0)) r

    own_term : (e : ℤ) → x < v.variables → e ≢ pos 0 → IsFormNumber e → AreTerms 0 v.variables ((x, e) ∷ [])
    own_term e l z k = (omega arith, l, z, k, tt)

    negated_kept : (w : LeafValue) → x < v.variables → IsForm v.variables f → R w → R (negated_met M v x (multiple_form (negsuc 0) (Some f)) w)
    negated_kept w l i r = by_form (multiple_form (negsuc 0) (Some f)) refl
      where
        once : (a n : ℤ) → a ≡ neg_ℤ n → a ≡ neg_ℤ (pos 1 *ℤ n)
        once a n e = omega (arith, ints, e)

        by_form : (o : Option Form) → multiple_form (negsuc 0) (Some f) ≡ o → R (negated_met M v x o w)
        by_form None e = r
        by_form (Some g) e =
            form_kept l (pos 1) (own_term (pos 1) l (λ z. omega (arith, ints, z)) (record { low = omega (arith, ints); high = omega (arith, ints) })) g
            (λ s. once (form_at g s) (form_at f s) (negated_value f g s e)) w (negated_is v.variables f g i e) r

    pub set_kept : x < v.variables → IsForm v.variables f → (w : LeafValue) → R w → R (set_met M v x f w)
    unfolding set_met
    set_kept l i w r =
        of_either R (is_nothing_of w) w (negated_met M v x (multiple_form (negsuc 0) (Some f)) (form_met M v (x, negsuc 0) f w)) r
        (negated_kept (form_met M v (x, negsuc 0) f w) l i
        (form_kept l (negsuc 0) (own_term (negsuc 0) l (λ z. omega (arith, ints, z)) (record { low = omega (arith, ints); high = omega (arith, ints) })) f (λ s. twice (form_at f s)) w i r))
      where
        twice : (n : ℤ) → n ≡ neg_ℤ (negsuc 0 *ℤ n)
        twice n = omega (arith, ints)

  -- ---- a leaf like the one before
  pub set_over : (w : LeafValue) (g : Form) → IsLeafLike M v w → FollowsSet g → IsForm w.variables g
  set_over w g i k = subst (λ n. IsForm n g) (sym i.same) k.form

  pub like_kept : IsSetKept (IsLeafLike M v)
  like_kept = record {
    form = λ w g i k. let j = L.meet_form_answers w g Le i.valid (set_over w g i k) in record { valid = j.valid; same = j.same ∙ i.same };
  }

  pub set_met_like : x < v.variables → IsForm v.variables f → (w : LeafValue) → IsLeafLike M v w → IsLeafLike M v (set_met M v x f w)
  set_met_like l i w j = set_kept (IsLeafLike M v) like_kept l i w j

  -- ---- and a store that is held, set so
  record Keeps (s : List ℤ) (w : LeafValue) : Type 0 where
    like : IsLeafLike M v w
    holds : M.holds w (after s)

  is_at_most : (n : ℤ) → n ≤ℤ pos 0 → int_le n (pos 0) ≡ true
  is_at_most n h = grind (arith, ints)

  store_kept : (s : List ℤ) → M.holds v s → IsSetKept (Keeps s)
  store_kept s h = record {
    form = λ w g r k. record {
      like = like_kept.form w g r.like k;
      holds = L.meet_form_holds w g Le (after s) r.like.valid (set_over w g r.like k) r.holds (is_at_most (form_at g (after s)) (k.below s h));
    };
  }

  pub set_met_holds : x < v.variables → IsForm v.variables f → (w : LeafValue) (s : List ℤ) → IsLeafLike M v w → M.holds v s → M.holds w (after s) → M.holds (set_met M v x f w) (after s)
  set_met_holds l i w s j h k = (set_kept (Keeps s) (store_kept s h) l i w (record { like = j; holds = k })).holds

-- ---- Nothing stays so
pub set_met_nothing : (M : LeafMeaning) (v w : LeafValue) (n x : ℕ) (f : Form) → w ≡ nothing_of n → set_met M v x f w ≡ nothing_of n
unfolding set_met
set_met_nothing M v w n x f e = subst (λ u. set_met M v x f u ≡ nothing_of n) (sym e) refl

-- ---- the two cases of the code
pub set_met_stays : (M : LeafMeaning) (v w : LeafValue) (x : ℕ) (f : Form) → is_nothing_of w ≡ true → w ≡ set_met M v x f w
unfolding set_met
set_met_stays M v w x f e = subst (λ t. w ≡ (if t then w else negated_met M v x (multiple_form (negsuc 0) (Some f)) (form_met M v (x, negsuc 0) f w))) (sym e) refl

pub set_met_is : (M : LeafMeaning) (v w u : LeafValue) (x : ℕ) (f : Form) → is_nothing_of w ≡ false → u ≡ form_met M v (x, negsuc 0) f w → negated_met M v x (multiple_form (negsuc 0) (Some f)) u ≡ set_met M v x f w
unfolding set_met
set_met_is M v w u x f e d =
    let both = negated_met M v x (multiple_form (negsuc 0) (Some f)) (form_met M v (x, negsuc 0) f w) in
    ap (λ y. negated_met M v x (multiple_form (negsuc 0) (Some f)) y) d ∙ subst (λ t. both ≡ (if t then w else both)) (sym e) refl
