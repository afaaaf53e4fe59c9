-- What the least values of the terms of a form leave of one that is at most 0.
use Rattle.std.proofs.Common.{◌≡◌, ◌≢◌, ℕ, ◌+◌, ◌<◌, ◌≤◌, ℤ, pos, ◌+ℤ◌, ◌-ℤ◌, ◌*ℤ◌, ◌≤ℤ◌, true, List, [], ◌∷◌, arith}
use Rattle.std.proofs.lemmas.Int.{ints}
use Rattle.leaf_domain.specs.declared.form.Form.{Form}
use Rattle.leaf_domain.specs.declared.range.Range.{Range}
use Rattle.leaf_domain.specs.Ranges.{Within, IsInInt}
use Rattle.leaf_domain.specs.Forms.{AreTerms, IsForm, IsFormNumber, form_at, terms_at, is_form_number}
use Rattle.leaf_domain.specs.Leaves.{LeafValue, LeafMeaning, LeafLaws, at_store}
use Rattle.leaf_domain.proofs.FormLemmas.{number_is}
use Rattle.linearised_leaf.specs.LeastValues.{least_term, least_terms, least_value, multiples_below}
use Rattle.linearised_leaf.specs.Sides.{two_terms}
use Rattle.linearised_leaf.proofs.Numbers.{least_is_least, multiples_hold, multiples_in_int}

-- the value of a term at a store
abbrev pub value_of : ℕ × ℤ → List ℤ → ℤ
value_of t s = t.1 *ℤ at_store s t.0

-- terms from a lower number on
pub terms_lower : (from to count : ℕ) (ts : List (ℕ × ℤ)) → to ≤ from → AreTerms from count ts → AreTerms to count ts
terms_lower from to count [] l a = tt
terms_lower from to count (t ∷ ts) l a = let p : from ≤ t.0 = a.0 in (omega (arith, l, p), a.1, a.2, a.3, a.4)

-- the terms behind a term
pub terms_behind : (from count : ℕ) (t : ℕ × ℤ) (ts : List (ℕ × ℤ)) → AreTerms from count (t ∷ ts) → AreTerms from count ts
terms_behind from count t ts a = let p : from ≤ t.0 = a.0 in terms_lower (t.0 + 1) from count ts (omega (arith, p)) a.4

-- two of the terms, and a number of a form
pub two_form : (from count : ℕ) (t u : ℕ × ℤ) (us : List (ℕ × ℤ)) (n : ℤ) → t.0 < count → t.1 ≢ pos 0 → IsFormNumber t.1 → t.0 + 1 ≤ from → AreTerms from count (u ∷ us) → is_form_number n ≡ true → IsForm count (two_terms t u n)
two_form from count t u us n l z k b a e =
    let p : from ≤ u.0 = a.0 in
    record { terms = (omega arith, l, z, k, (omega (arith, p, b), a.1, a.2, a.3, tt)); constant = number_is n e }

module _ (M : LeafMeaning) (L : LeafLaws M) (v : LeafValue) (p : M.valid v) where
  term_least : (t : ℕ × ℤ) (s : List ℤ) → t.0 < v.variables → M.holds v s → least_term M v t ≤ℤ value_of t s
  term_least t s l h = least_is_least t.1 (at_store s t.0) (M.bounds_of v t.0) (L.bounds_hold v t.0 s p l h)

  pub terms_least : (from : ℕ) (ts : List (ℕ × ℤ)) (s : List ℤ) → AreTerms from v.variables ts → M.holds v s → least_terms M v ts ≤ℤ terms_at ts s
  terms_least from [] s a h = omega (arith, ints)
  terms_least from (t ∷ ts) s a h = sums (least_term M v t) (least_terms M v ts) (value_of t s) (terms_at ts s) (term_least t s a.1 h) (terms_least (t.0 + 1) ts s a.4 h)
    where
      sums : (a b c d : ℤ) → a ≤ℤ c → b ≤ℤ d → (a +ℤ b) ≤ℤ (c +ℤ d)
      sums a b c d h k = omega (arith, ints, h, k)

  module _ (f : Form) (m : ℤ) where
    abbrev pub Least : ℤ
    Least = least_value M v f m

    -- the value of these terms past their least value lies within that of the form
    abbrev pub IsPart : List (ℕ × ℤ) → Type 0
    IsPart ts = (s : List ℤ) → M.holds v s → (Least +ℤ (terms_at ts s -ℤ least_terms M v ts)) ≤ℤ (form_at f s +ℤ m)

    -- the same of a term and of others
    abbrev pub ArePart : ℕ × ℤ → List (ℕ × ℤ) → Type 0
    ArePart t us = (s : List ℤ) → M.holds v s → ((Least +ℤ (value_of t s -ℤ least_term M v t)) +ℤ (terms_at us s -ℤ least_terms M v us)) ≤ℤ (form_at f s +ℤ m)

    pub whole_part : IsPart f.terms
    whole_part s h = all f.constant (terms_at f.terms s) (least_terms M v f.terms)
      where
        all : (c a b : ℤ) → (((c +ℤ m) +ℤ b) +ℤ (a -ℤ b)) ≤ℤ ((a +ℤ c) +ℤ m)
        all c a b = omega (arith, ints)

    pub first_part : (t : ℕ × ℤ) (ts : List (ℕ × ℤ)) → IsPart (t ∷ ts) → ArePart t ts
    first_part t ts q s h = split Least (value_of t s) (terms_at ts s) (least_term M v t) (least_terms M v ts) (form_at f s +ℤ m) (q s h)
      where
        split : (n a b c d e : ℤ) → (n +ℤ ((a +ℤ b) -ℤ (c +ℤ d))) ≤ℤ e → ((n +ℤ (a -ℤ c)) +ℤ (b -ℤ d)) ≤ℤ e
        split n a b c d e h = omega (arith, ints, h)

    pub rest_part : (t : ℕ × ℤ) (ts : List (ℕ × ℤ)) → t.0 < v.variables → IsPart (t ∷ ts) → IsPart ts
    rest_part t ts l q s h = less Least (value_of t s) (terms_at ts s) (least_term M v t) (least_terms M v ts) (form_at f s +ℤ m) (term_least t s l h) (q s h)
      where
        less : (n a b c d e : ℤ) → c ≤ℤ a → (n +ℤ ((a +ℤ b) -ℤ (c +ℤ d))) ≤ℤ e → (n +ℤ (b -ℤ d)) ≤ℤ e
        less n a b c d e k h = omega (arith, ints, k, h)

    pub behind_part : (t u : ℕ × ℤ) (us : List (ℕ × ℤ)) → u.0 < v.variables → ArePart t (u ∷ us) → ArePart t us
    behind_part t u us l q s h = less (Least +ℤ (value_of t s -ℤ least_term M v t)) (value_of u s) (terms_at us s) (least_term M v u) (least_terms M v us) (form_at f s +ℤ m) (term_least u s l h) (q s h)
      where
        less : (n a b c d e : ℤ) → c ≤ℤ a → (n +ℤ ((a +ℤ b) -ℤ (c +ℤ d))) ≤ℤ e → (n +ℤ (b -ℤ d)) ≤ℤ e
        less n a b c d e k h = omega (arith, ints, k, h)

    -- ---- what follows where the form plus the number is at most 0
    -- a form that is at most 0 too
    pub record Follows (g : Form) : Type 0 where
      pub form : IsForm v.variables g
      pub below : (s : List ℤ) → M.holds v s → (form_at f s +ℤ m) ≤ℤ pos 0 → form_at g s ≤ℤ pos 0

    -- a range that a variable lies in
    pub record Limits (x : ℕ) (r : Range) : Type 0 where
      pub variable : x < v.variables
      pub int : IsInInt r
      pub within : (s : List ℤ) → M.holds v s → (form_at f s +ℤ m) ≤ℤ pos 0 → Within (at_store s x) r

    pub two_follow : (from : ℕ) (t u : ℕ × ℤ) (us : List (ℕ × ℤ)) (n : ℤ) → t.0 < v.variables → t.1 ≢ pos 0 → IsFormNumber t.1 → t.0 + 1 ≤ from → AreTerms from v.variables (u ∷ us) → ArePart t (u ∷ us)
        → n ≡ (Least -ℤ least_term M v t) -ℤ least_term M v u → is_form_number n ≡ true → Follows (two_terms t u n)
    two_follow from t u us n l z k b a q e i = record {
      form = two_form from v.variables t u us n l z k b a i;
      below = λ s h c. ends Least (value_of t s) (least_term M v t) (value_of u s) (least_term M v u) (terms_at us s) (least_terms M v us) (form_at f s +ℤ m) n e (terms_least (u.0 + 1) us s a.4 h) (q s h) c;
    }
      where
        ends : (w a c b d x y e n : ℤ) → n ≡ (w -ℤ c) -ℤ d → y ≤ℤ x → ((w +ℤ (a -ℤ c)) +ℤ ((b +ℤ x) -ℤ (d +ℤ y))) ≤ℤ e → e ≤ℤ pos 0 → ((a +ℤ (b +ℤ pos 0)) +ℤ n) ≤ℤ pos 0
        ends w a c b d x y e n i j h k = omega (arith, ints, i, j, h, k)

    pub one_limits : (from : ℕ) (t : ℕ × ℤ) (ts : List (ℕ × ℤ)) → AreTerms from v.variables (t ∷ ts) → IsPart (t ∷ ts) → Limits t.0 (multiples_below t.1 (least_term M v t -ℤ Least))
    one_limits from t ts a q = record {
      variable = a.1;
      int = multiples_in_int t.1 (least_term M v t -ℤ Least);
      within = λ s h c.
          let w = L.bounds_hold v t.0 s p a.1 h in
          let i = L.bounds_in_int v t.0 p a.1 in
          multiples_hold t.1 (at_store s t.0) (least_term M v t -ℤ Least) a.2
          (record { low = omega (arith, ints, w.low, i.low.low); high = omega (arith, ints, w.high, i.high.high) })
          (ends Least (value_of t s) (terms_at ts s) (least_term M v t) (least_terms M v ts) (form_at f s +ℤ m) (terms_least (t.0 + 1) ts s a.4 h) (q s h) c);
    }
      where
        ends : (w a b c d e : ℤ) → d ≤ℤ b → (w +ℤ ((a +ℤ b) -ℤ (c +ℤ d))) ≤ℤ e → e ≤ℤ pos 0 → a ≤ℤ (c -ℤ w)
        ends w a b c d e j h k = omega (arith, ints, j, h, k)
