-- The numbers of the code are those that are computed: none wraps.
use Rattle.std.proofs.Common.{◌≡◌, ℕ, ◌≤◌, ℤ, pos, ◌+ℤ◌, ◌-ℤ◌, ◌*ℤ◌, Option, Some, None, IfSome, List, [], ◌∷◌, Bool, true, false, ◌&&◌, if◌then◌else◌, FitsSigned, to_z, of_z, w64, refl, sym, subst, ap, ◌∙◌, arith}
use Rattle.std.specs.Int.{w128}
use Rattle.std.proofs.lemmas.Int.{ints, to_z-of_z}
use Rattle.c_tree.specs.Value.{IsInt}
use Rattle.leaf_domain.specs.declared.form.Form.{Form}
use Rattle.leaf_domain.specs.Forms.{AreTerms, IsForm, IsFormNumber, is_form_number}
use Rattle.leaf_domain.specs.Sums.{kept_number}
use Rattle.leaf_domain.specs.Leaves.{LeafValue, LeafMeaning}
use Rattle.leaf_domain.proofs.FormLemmas.{number_is}
use Rattle.linearised_leaf.specs.LeastValues.{least_term, least_value}
use Rattle.linearised_leaf.specs.Sizes.{IsTermSize, IsSumSize}
use Rattle.linearised_leaf.specs.Sides.{is_unit, two_terms, met_pair, pair_met, pairs_met, all_pairs_met, term_met, terms_met, side_met}
use Rattle.linearised_leaf.specs.Differences.{is_other_unit, met_in_order, difference_met, differences_met, form_met}
use Rattle.linear_terms.proofs.Sums.{wide_sum}
use Rattle.linearised_leaf.specs.LeastValues.{multiples_below}
use Rattle.paired_leaf.specs.Exchange.{limited_at}
use Rattle.leaf_domain.specs.declared.range.Range.{Range}
use Rattle.linearised_leaf.proofs.Terms.{terms_behind}
use Rattle.linearised_leaf.proofs.Summing.{IsSumming, product_size, summing_start, summing_more, summing_size}

abbrev pub wide : ℤ → ℤ
wide n = to_z w128 (of_z w128 n)

abbrev pub narrow : ℤ → ℤ
narrow n = to_z w64 (of_z w64 n)

pub term_fits : (n : ℤ) → IsTermSize n → FitsSigned w128 n
term_fits n h = omega (arith, ints, h.low, h.high)

pub sum_fits : (n : ℤ) → IsSumSize n → FitsSigned w128 n
sum_fits n h = omega (arith, ints, h.low, h.high)

pub form_fits : (n : ℤ) → IsFormNumber n → FitsSigned w64 n
form_fits n h = omega (arith, ints, h.low, h.high)

pub term_wide : (n : ℤ) → IsTermSize n → wide n ≡ n
term_wide n h = to_z-of_z w128 n (term_fits n h)

pub sum_wide : (n : ℤ) → IsSumSize n → wide n ≡ n
sum_wide n h = to_z-of_z w128 n (sum_fits n h)

pub form_narrow : (n : ℤ) → IsFormNumber n → narrow n ≡ n
form_narrow n h = to_z-of_z w64 n (form_fits n h)

int_fits : (n : ℤ) → IsInt n → FitsSigned w64 n
int_fits n h = omega (arith, ints, h.low, h.high)

pub product_wide_size : (r k n : ℤ) → IsFormNumber k → IsInt n → r ≡ narrow k *ℤ narrow n → IsTermSize (wide r)
product_wide_size r k n i j e =
    let s : IsTermSize (k *ℤ n) = product_size k n i j in
    let x : r ≡ k *ℤ n = e ∙ ap (λ y. y *ℤ narrow n) (form_narrow k i) ∙ ap (λ y. k *ℤ y) (to_z-of_z w64 n (int_fits n j)) in
    subst IsTermSize (sym (ap wide x ∙ term_wide (k *ℤ n) s)) s

-- ---- what is left
two_fits : (n a b : ℤ) → IsSumSize n → IsTermSize a → IsTermSize b → FitsSigned w128 ((n -ℤ a) -ℤ b)
two_fits n a b h i j = omega (arith, ints, h.low, h.high, i.low, i.high, j.low, j.high)

one_fits : (n a : ℤ) → IsSumSize n → IsTermSize a → FitsSigned w128 (n -ℤ a)
one_fits n a h i = omega (arith, ints, h.low, h.high, i.low, i.high)

pub one_wide : (n a : ℤ) → IsSumSize n → IsTermSize a → wide (wide n -ℤ wide a) ≡ n -ℤ a
one_wide n a h i = ap (λ x. wide (x -ℤ wide a)) (sum_wide n h) ∙ ap (λ x. wide (n -ℤ x)) (term_wide a i) ∙ to_z-of_z w128 (n -ℤ a) (one_fits n a h i)

pub two_left : (n a b : ℤ) → IsSumSize n → IsTermSize a → IsTermSize b → wide (wide n -ℤ wide a) -ℤ wide b ≡ (n -ℤ a) -ℤ b
two_left n a b h i j = ap (λ x. x -ℤ wide b) (one_wide n a h i) ∙ ap (λ x. (n -ℤ a) -ℤ x) (term_wide b j)

pub two_left_fits : (n a b : ℤ) → IsSumSize n → IsTermSize a → IsTermSize b → FitsSigned w128 (wide (wide n -ℤ wide a) -ℤ wide b)
two_left_fits n a b h i j = subst (FitsSigned w128) (sym (two_left n a b h i j)) (two_fits n a b h i j)

-- ---- two terms
-- the form of two terms and a number that is kept
pub pair_form : (count : ℕ) (t u : ℕ × ℤ) (o : Option ℤ) (n : ℤ) → AreTerms 0 count (t ∷ u ∷ []) → o ≡ kept_number n → IfSome o (λ k. IsForm count (two_terms t u k))
pair_form count t u o n a e = subst (λ p. IfSome p (λ k. IsForm count (two_terms t u k))) (sym e) (by_test (is_form_number n) refl)
  where
    by_test : (c : Bool) → is_form_number n ≡ c → IfSome (if c then Some n else None) (λ k. IsForm count (two_terms t u k))
    by_test true i = record { terms = a; constant = number_is n i }
    by_test false i = tt

-- a number that is kept is a number of a form
pub kept_has : (n : ℤ) (o : Option ℤ) → o ≡ kept_number n → IfSome o IsFormNumber
kept_has n o e = subst (λ p. IfSome p IsFormNumber) (sym e) (by_test (is_form_number n) refl)
  where
    by_test : (c : Bool) → is_form_number n ≡ c → IfSome (if c then Some n else None) IsFormNumber
    by_test true i = number_is n i
    by_test false i = tt

module _ (M : LeafMeaning) (v : LeafValue) where
  pub term_back : (r : ℤ) (t : ℕ × ℤ) → IsFormNumber t.1 → r ≡ least_term M v (t.0, narrow t.1) → r ≡ least_term M v t
  term_back r t i e = e ∙ ap (λ k. least_term M v (t.0, k)) (form_narrow t.1 i)

  pub pair_is : (n : ℤ) (t u : ℕ × ℤ) (w : LeafValue) (o : Option ℤ) (l a b : ℤ) → IsFormNumber t.1 → IsFormNumber u.1 → (is_unit (narrow t.1) && is_unit (narrow u.1)) ≡ true → IsSumSize n → IsTermSize a → IsTermSize b
      → a ≡ least_term M v (t.0, narrow t.1) → b ≡ least_term M v (u.0, narrow u.1) → l ≡ (wide n -ℤ wide a) -ℤ wide b → o ≡ kept_number (wide l) → met_pair M w o t u ≡ pair_met M v n t u w
  pair_is n t u w o l a b f g c h i j y z e k =
      let p : a ≡ least_term M v t = term_back a t f y in
      let q : b ≡ least_term M v u = term_back b u g z in
      let d : (is_unit t.1 && is_unit u.1) ≡ true = subst (λ r. (is_unit t.1 && is_unit r) ≡ true) (form_narrow u.1 g) (subst (λ r. (is_unit r && is_unit (narrow u.1)) ≡ true) (form_narrow t.1 f) c) in
      let x : l ≡ (n -ℤ a) -ℤ b = e ∙ ap (λ y. (y -ℤ wide a) -ℤ wide b) (sum_wide n h) ∙ ap (λ y. (n -ℤ y) -ℤ wide b) (term_wide a i) ∙ ap (λ y. (n -ℤ a) -ℤ y) (term_wide b j) in
      let y : wide l ≡ (n -ℤ a) -ℤ b = ap wide x ∙ to_z-of_z w128 ((n -ℤ a) -ℤ b) (two_fits n a b h i j) in
      let z : o ≡ kept_number ((n -ℤ least_term M v t) -ℤ least_term M v u) = k ∙ ap kept_number (y ∙ ap (λ c. (n -ℤ c) -ℤ b) p ∙ ap (λ c. (n -ℤ least_term M v t) -ℤ c) q) in
      ap (λ c. met_pair M w c t u) z
      ∙ subst (λ c. met_pair M w (kept_number ((n -ℤ least_term M v t) -ℤ least_term M v u)) t u ≡ (if c then met_pair M w (kept_number ((n -ℤ least_term M v t) -ℤ least_term M v u)) t u else w)) (sym d) refl

  -- ---- one term
  pub term_is : (n : ℤ) (x : ℕ) (k : ℤ) (w : LeafValue) (q : Range) (l r : ℤ) → IsSumSize n → IsFormNumber k → IsTermSize r → r ≡ least_term M v (x, narrow k) → l ≡ wide r -ℤ wide n → q ≡ multiples_below (narrow k) (wide l)
      → limited_at M w x q ≡ term_met M v n (x, k) w
  term_is n x k w q l r h i j e d c =
      let a : l ≡ r -ℤ n = d ∙ ap (λ y. y -ℤ wide n) (term_wide r j) ∙ ap (λ y. r -ℤ y) (sum_wide n h) in
      let f : FitsSigned w128 (r -ℤ n) = omega (arith, ints, h.low, h.high, j.low, j.high) in
      let b : wide l ≡ r -ℤ n = ap wide a ∙ to_z-of_z w128 (r -ℤ n) f in
      ap (λ y. limited_at M w x y)
      (c ∙ ap (λ y. multiples_below y (wide l)) (form_narrow k i) ∙ ap (λ y. multiples_below k y) (b ∙ ap (λ y. y -ℤ n) (term_back r (x, k) i e)))

  -- ---- differences
  pub difference_is : (n : ℤ) (own t : ℕ × ℤ) (w : LeafValue) (o : Option ℤ) (l r : ℤ) → IsFormNumber t.1 → is_other_unit own.0 (t.0, narrow t.1) ≡ true → IsSumSize n → IsTermSize r → r ≡ least_term M v (t.0, narrow t.1)
      → l ≡ wide n -ℤ wide r → o ≡ kept_number (wide l) → met_in_order M w o own t ≡ difference_met M v n own t w
  difference_is n own t w o l r i c h j e d k =
      let b : is_other_unit own.0 t ≡ true = subst (λ m. is_other_unit own.0 (t.0, m) ≡ true) (form_narrow t.1 i) c in
      let x : l ≡ n -ℤ r = d ∙ ap (λ y. y -ℤ wide r) (sum_wide n h) ∙ ap (λ y. n -ℤ y) (term_wide r j) in
      let y : wide l ≡ n -ℤ r = ap wide x ∙ to_z-of_z w128 (n -ℤ r) (one_fits n r h j) in
      let z : o ≡ kept_number (n -ℤ least_term M v t) = k ∙ ap kept_number (y ∙ ap (λ a. n -ℤ a) (term_back r t i e)) in
      ap (λ a. met_in_order M w a own t) z
      ∙ subst (λ a. met_in_order M w (kept_number (n -ℤ least_term M v t)) own t ≡ (if a then met_in_order M w (kept_number (n -ℤ least_term M v t)) own t else w)) (sym b) refl

  -- ---- sums
  pub summing_begin : (f : Form) (m : ℤ) (ts : List (ℕ × ℤ)) → IsForm v.variables f → IsFormNumber m → ts ≡ f.terms → IsSumming M v (least_value M v f (narrow m)) (wide (wide (narrow f.constant) +ℤ wide (narrow m))) ts
  summing_begin f m ts i k e =
      let n : narrow m ≡ m = form_narrow m k in
      let s : wide (wide (narrow f.constant) +ℤ wide (narrow m)) ≡ f.constant +ℤ narrow m = wide_sum f.constant m (form_fits f.constant i.constant) (form_fits m k) ∙ ap (λ y. f.constant +ℤ y) (sym n) in
      subst (λ us. IsSumming M v (least_value M v f (narrow m)) (wide (wide (narrow f.constant) +ℤ wide (narrow m))) us) (sym e)
      (summing_start M v f (narrow m) (wide (wide (narrow f.constant) +ℤ wide (narrow m))) i (subst IsFormNumber (sym n) k) s)

  pub summing_step : (total s r : ℤ) (rest behind : List (ℕ × ℤ)) (x : ℕ) (k : ℤ) → v.variables ≤ 48 → FitsSigned w64 k → rest ≡ (x, k) ∷ behind → r ≡ least_term M v (x, narrow k) → IsTermSize r → IsSumming M v total s rest
      → IsSumming M v total (wide (s +ℤ wide r)) behind
  summing_step total s r rest behind x k l f e d z h =
      let y = summing_size M v total s rest h in
      let g : FitsSigned w128 (s +ℤ r) = omega (arith, ints, y.low, y.high, z.low, z.high) in
      summing_more M v total s (wide (s +ℤ wide r)) r rest behind x k l e (d ∙ ap (λ j. least_term M v (x, j)) (to_z-of_z w64 k f)) z (ap (λ j. wide (s +ℤ j)) (term_wide r z) ∙ to_z-of_z w128 (s +ℤ r) g) h

  -- ---- steps
  pub pairs_next : (n : ℤ) (t : ℕ × ℤ) (rest behind : List (ℕ × ℤ)) (x : ℕ) (k : ℤ) (w u total : LeafValue) → FitsSigned w64 k → rest ≡ (x, k) ∷ behind → u ≡ pair_met M v n t (x, narrow k) w → pairs_met M v n t rest w ≡ total
      → pairs_met M v n t behind u ≡ total
  pairs_next n t rest behind x k w u total f e d h =
      ap (λ y. pairs_met M v n t behind y) (d ∙ ap (λ j. pair_met M v n t (x, j) w) (to_z-of_z w64 k f)) ∙ subst (λ ts. pairs_met M v n t ts w ≡ total) e h

  pub all_pairs_next : (n : ℤ) (rest behind : List (ℕ × ℤ)) (x : ℕ) (k : ℤ) (w u total : LeafValue) → FitsSigned w64 k → rest ≡ (x, k) ∷ behind → u ≡ pairs_met M v n (x, narrow k) behind w → all_pairs_met M v n rest w ≡ total
      → all_pairs_met M v n behind u ≡ total
  all_pairs_next n rest behind x k w u total f e d h =
      ap (λ y. all_pairs_met M v n behind y) (d ∙ ap (λ j. pairs_met M v n (x, j) behind w) (to_z-of_z w64 k f)) ∙ subst (λ ts. all_pairs_met M v n ts w ≡ total) e h

  pub terms_next : (n : ℤ) (rest behind : List (ℕ × ℤ)) (x : ℕ) (k : ℤ) (w u total : LeafValue) → FitsSigned w64 k → rest ≡ (x, k) ∷ behind → u ≡ term_met M v n (x, narrow k) w → terms_met M v n rest w ≡ total
      → terms_met M v n behind u ≡ total
  terms_next n rest behind x k w u total f e d h =
      ap (λ y. terms_met M v n behind y) (d ∙ ap (λ j. term_met M v n (x, j) w) (to_z-of_z w64 k f)) ∙ subst (λ ts. terms_met M v n ts w ≡ total) e h

  pub differences_next : (n : ℤ) (own : ℕ × ℤ) (rest behind : List (ℕ × ℤ)) (x : ℕ) (k : ℤ) (w u total : LeafValue) → FitsSigned w64 k → rest ≡ (x, k) ∷ behind → u ≡ difference_met M v n own (x, narrow k) w
      → differences_met M v n own rest w ≡ total → differences_met M v n own behind u ≡ total
  differences_next n own rest behind x k w u total f e d h =
      ap (λ y. differences_met M v n own behind y) (d ∙ ap (λ j. difference_met M v n own (x, j) w) (to_z-of_z w64 k f)) ∙ subst (λ ts. differences_met M v n own ts w ≡ total) e h

  pub form_is : (f : Form) (own : ℕ × ℤ) (n : ℤ) (ts : List (ℕ × ℤ)) (w : LeafValue) → n ≡ least_value M v f (pos 0) → ts ≡ f.terms → differences_met M v n own ts w ≡ form_met M v own f w
  form_is f own n ts w e d = ap (λ x. differences_met M v n own x w) d ∙ ap (λ x. differences_met M v x own f.terms w) e

  pub side_is : (f : Form) (m n : ℤ) (ts : List (ℕ × ℤ)) (w u : LeafValue) → n ≡ least_value M v f m → ts ≡ f.terms → u ≡ v → w ≡ all_pairs_met M v n ts u → terms_met M v n ts w ≡ side_met M v f m
  unfolding side_met
  side_is f m n ts w u e d c b =
      ap (λ x. terms_met M v n ts x) (b ∙ ap (λ x. all_pairs_met M v n ts x) c) ∙ ap (λ x. terms_met M v n x (all_pairs_met M v n x v)) d
      ∙ ap (λ x. terms_met M v x f.terms (all_pairs_met M v x f.terms v)) e

-- the terms behind those of a list
pub terms_next_are : (count : ℕ) (rest behind : List (ℕ × ℤ)) (x : ℕ) (k : ℤ) → rest ≡ (x, k) ∷ behind → AreTerms 0 count rest → AreTerms 0 count behind
terms_next_are count rest behind x k e a = terms_behind 0 count (x, k) behind (subst (AreTerms 0 count) e a)
