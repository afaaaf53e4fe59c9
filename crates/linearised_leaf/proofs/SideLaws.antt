-- What the meets of a form's terms keep: by one principle, whatever each of these meets keeps.
use Rattle.std.proofs.Common.{◌≡◌, ◌≢◌, ℕ, ◌+◌, ◌<◌, ◌≤◌, ℤ, pos, ◌+ℤ◌, ◌-ℤ◌, ◌≤ℤ◌, int_le, Bool, true, false, ◌&&◌, if◌then◌else◌, List, [], ◌∷◌, Some, None, refl, sym, subst, ◌∙◌, arith}
use Rattle.std.proofs.lemmas.Int.{ints}
use Rattle.leaf_domain.specs.declared.form.Form.{Form}
use Rattle.leaf_domain.specs.declared.range.Range.{Range}
use Rattle.leaf_domain.specs.declared.compare.Compare.TheVariants.{Le}
use Rattle.leaf_domain.specs.Forms.{AreTerms, IsForm, IsFormNumber, form_at, is_form_number}
use Rattle.leaf_domain.specs.Leaves.{LeafValue, LeafMeaning, LeafLaws, IsLeafLike}
use Rattle.leaf_domain.specs.Sums.{kept_number}
use Rattle.paired_leaf.specs.Exchange.{limited_at}
use Rattle.paired_leaf.proofs.ExchangeLaws.{at_like, at_holds}
use Rattle.paired_leaf.proofs.PairLemmas.{of_either}
use Rattle.linearised_leaf.specs.LeastValues.{least_term, multiples_below}
use Rattle.linearised_leaf.specs.Sides.{is_unit, two_terms, is_never_above, met_pair, pair_met, pairs_met, all_pairs_met, term_met, terms_met, side_met}
use Rattle.linearised_leaf.proofs.Terms.{Least, IsPart, ArePart, Follows, Limits, terms_behind, whole_part, first_part, rest_part, behind_part, two_follow, one_limits}

module _ (M : LeafMeaning) (L : LeafLaws M) (v : LeafValue) (p : M.valid v) (f : Form) (m : ℤ) where
  abbrev pub N : ℤ
  N = Least M L v p f m

  -- what stays so when a leaf is met with what follows from the form
  pub record IsKept (R : LeafValue → Type 0) : Type 0 where
    pub form : (w : LeafValue) (g : Form) → R w → Follows M L v p f m g → R (M.meet_form w g Le)
    pub range : (w : LeafValue) (x : ℕ) (r : Range) → R w → Limits M L v p f m x r → R (limited_at M w x r)

  module _ (R : LeafValue → Type 0) (K : IsKept R) where
    pair_kept : (from : ℕ) (t u : ℕ × ℤ) (us : List (ℕ × ℤ)) (n : ℤ) (w : LeafValue) → t.0 < v.variables → t.1 ≢ pos 0 → IsFormNumber t.1 → t.0 + 1 ≤ from → AreTerms from v.variables (u ∷ us) → ArePart M L v p f m t (u ∷ us)
        → n ≡ (N -ℤ least_term M v t) -ℤ least_term M v u → R w → R (met_pair M w (kept_number n) t u)
    pair_kept from t u us n w l z k b a q e r = by_test (is_form_number n) refl
      where
        by_test : (c : Bool) → is_form_number n ≡ c → R (met_pair M w (if c then Some n else None) t u)
        by_test true i =
            of_either R (is_never_above (M.form_range w (two_terms t u n))) w (M.meet_form w (two_terms t u n) Le) r
            (K.form w (two_terms t u n) r (two_follow M L v p f m from t u us n l z k b a q e i))
        by_test false i = r

    pairs_kept : (from : ℕ) (t : ℕ × ℤ) (us : List (ℕ × ℤ)) (w : LeafValue) → t.0 < v.variables → t.1 ≢ pos 0 → IsFormNumber t.1 → t.0 + 1 ≤ from → AreTerms from v.variables us → ArePart M L v p f m t us → R w → R (pairs_met M v N t us w)
    pairs_kept from t [] w l z k b a q r = r
    pairs_kept from t (u ∷ us) w l z k b a q r =
        let n = (N -ℤ least_term M v t) -ℤ least_term M v u in
        pairs_kept from t us (pair_met M v N t u w) l z k b (terms_behind from v.variables u us a) (behind_part M L v p f m t u us a.1 q)
        (of_either R (is_unit t.1 && is_unit u.1) (met_pair M w (kept_number n) t u) w (pair_kept from t u us n w l z k b a q refl r) r)

    all_pairs_kept : (from : ℕ) (ts : List (ℕ × ℤ)) (w : LeafValue) → AreTerms from v.variables ts → IsPart M L v p f m ts → R w → R (all_pairs_met M v N ts w)
    all_pairs_kept from [] w a q r = r
    all_pairs_kept from (t ∷ ts) w a q r =
        all_pairs_kept (t.0 + 1) ts (pairs_met M v N t ts w) a.4 (rest_part M L v p f m t ts a.1 q)
        (pairs_kept (t.0 + 1) t ts w a.1 a.2 a.3 (omega arith) a.4 (first_part M L v p f m t ts q) r)

    terms_kept : (from : ℕ) (ts : List (ℕ × ℤ)) (w : LeafValue) → AreTerms from v.variables ts → IsPart M L v p f m ts → R w → R (terms_met M v N ts w)
    terms_kept from [] w a q r = r
    terms_kept from (t ∷ ts) w a q r =
        terms_kept (t.0 + 1) ts (term_met M v N t w) a.4 (rest_part M L v p f m t ts a.1 q)
        (K.range w t.0 (multiples_below t.1 (least_term M v t -ℤ N)) r (one_limits M L v p f m from t ts a q))

    pub side_kept : IsForm v.variables f → R v → R (side_met M v f m)
    unfolding side_met
    side_kept i r =
        let q = whole_part M L v p f m in
        terms_kept 0 f.terms (all_pairs_met M v N f.terms v) i.terms q (all_pairs_kept 0 f.terms v i.terms q r)

  -- ---- a leaf like the first
  same_like : (w u : LeafValue) → IsLeafLike M v w → IsLeafLike M w u → IsLeafLike M v u
  same_like w u i j = record { valid = j.valid; same = j.same ∙ i.same }

  pub form_over : (w : LeafValue) (g : Form) → IsLeafLike M v w → Follows M L v p f m g → IsForm w.variables g
  form_over w g i k = subst (λ n. IsForm n g) (sym i.same) k.form

  pub below_count : (w : LeafValue) (x : ℕ) → IsLeafLike M v w → x < v.variables → x < w.variables
  below_count w x i l = subst (λ n. x < n) (sym i.same) l

  pub like_kept : IsKept (IsLeafLike M v)
  like_kept = record {
    form = λ w g i k. same_like w (M.meet_form w g Le) i (L.meet_form_answers w g Le i.valid (form_over w g i k));
    range = λ w x r i k. same_like w (limited_at M w x r) i (at_like M M L L w x r i.valid (below_count w x i k.variable) k.int);
  }

  pub side_like : IsForm v.variables f → IsLeafLike M v (side_met M v f m)
  side_like i = side_kept (IsLeafLike M v) like_kept i (record { valid = p; same = refl })

  -- ---- and each store of the first at which the form plus the number is at most 0
  pub record Keeps (w : LeafValue) : Type 0 where
    pub like : IsLeafLike M v w
    pub holds : (s : List ℤ) → M.holds v s → (form_at f s +ℤ m) ≤ℤ pos 0 → M.holds w s

  is_at_most : (n : ℤ) → n ≤ℤ pos 0 → int_le n (pos 0) ≡ true
  is_at_most n h = grind (arith, ints)

  store_kept : IsKept Keeps
  store_kept = record {
    form = λ w g r k. record {
      like = like_kept.form w g r.like k;
      holds = λ s h c. L.meet_form_holds w g Le s r.like.valid (form_over w g r.like k) (r.holds s h c) (is_at_most (form_at g s) (k.below s h c));
    };
    range = λ w x q r k. record {
      like = like_kept.range w x q r.like k;
      holds = λ s h c. at_holds M M L L w x q s r.like.valid (below_count w x r.like k.variable) k.int (r.holds s h c) (k.within s h c);
    };
  }

  pub side_holds : (s : List ℤ) → IsForm v.variables f → M.holds v s → (form_at f s +ℤ m) ≤ℤ pos 0 → M.holds (side_met M v f m) s
  side_holds s i h c = (side_kept Keeps store_kept i (record { like = record { valid = p; same = refl }; holds = λ t g d. g })).holds s h c
