-- What a product says of which one factor has one value: a comparison of it and an assignment of it, as those of its form, keep each store.
use Rattle.std.proofs.Common.{◌≡◌, ℕ, ◌+◌, ◌<◌, ℤ, pos, ◌+ℤ◌, ◌-ℤ◌, ◌*ℤ◌, int_lt, int_le, ◌≤ℤ◌, not, Bool, true, false, ◌&&◌, if◌then◌else◌, List, [], ◌∷◌, length, Option, Some, None, IfSome, slice_set, refl, ap, sym, subst, ◌∙◌, arith}
use Rattle.std.specs.Ordering.{int_eq}
use Rattle.std.proofs.lemmas.Int.{ints}
use Rattle.std.proofs.Math.IntN.{*ℤ_comm}
use Rattle.c_tree.specs.declared.tree.Op.{Op}
use Rattle.c_tree.specs.declared.tree.Op.TheVariants.{Add, Sub, Mul, Div, Rem, Lt as LtOp, Le as LeOp, Gt as GtOp, Ge as GeOp, Eq as EqOp, Ne as NeOp, And, Or}
use Rattle.leaf_domain.specs.declared.form.Form.{Form}
use Rattle.leaf_domain.specs.declared.operation.Operation.{Operation}
use Rattle.leaf_domain.specs.declared.range.Range.{Range}
use Rattle.leaf_domain.specs.declared.compare.Compare.{Compare}
use Rattle.leaf_domain.specs.declared.compare.Compare.TheVariants.{Lt, Le, Gt, Ge, Eq, Ne}
use Rattle.leaf_domain.specs.Compares.{holds_between}
use Rattle.leaf_domain.specs.Forms.{AreTerms, IsForm, form_at, terms_at, form_by, multiple_form, is_form_number}
use Rattle.leaf_domain.specs.Operations.{IsOperation, Operates}
use Rattle.leaf_domain.specs.Ranges.{Within, is_single, exact}
use Rattle.leaf_domain.specs.Sums.{kept_number, HasForm}
use Rattle.leaf_domain.specs.Leaves.{LeafValue, LeafMeaning, LeafLaws, IsLeafLike, nothing_of, at_store}
use Rattle.leaf_domain.proofs.FormLemmas.{number_is, multiple_is_form}
use Rattle.linear_terms.proofs.Values.{terms_by_at}
use Rattle.linear_terms.proofs.Integers.{sum-times}
use Rattle.paired_leaf.proofs.PairLemmas.{of_either}
use Rattle.linearised_leaf.specs.LeastValues.{least_multiple, least_terms, least_value}
use Rattle.linearised_leaf.specs.Differences.{set_met}
use Rattle.linearised_leaf.specs.Tightened.{tightened, has_variable, form_less_variable}
use Rattle.linearised_leaf.specs.Products.{have_one_value, known_value, multiple_by, first_or, form_by_op, operation_form, met_where, less_by, less_number, met_between, operation_met, operation_set}
use Rattle.linearised_leaf.proofs.FormLaws.{kept_value, less_has, less_value}
use Rattle.linearised_leaf.proofs.Stores.{set_at, terms_other}
use Rattle.linearised_leaf.proofs.DifferenceLaws.{set_met_like, set_met_holds, set_met_nothing}
use Rattle.linearised_leaf.proofs.TightenedLaws.{own, then_like, over, counted, tightened_like, tightened_holds, tightened_nothing}

-- ---- values
-- the one number of a range
one_at : (k x : ℤ) (r : Range) → Within x r → is_single r ≡ true → k *ℤ x ≡ least_multiple k r
one_at k x r w e = by_test (int_lt k (pos 0))
  where
    same : r.low ≡ r.high → r.low ≡ x × (r.high ≡ x)
    same f = (omega (arith, ints, w.low, w.high), omega (arith, ints, w.low, w.high))

    ends : r.low ≡ x × (r.high ≡ x)
    ends = same (grind (arith, ints))

    by_test : (t : Bool) → k *ℤ x ≡ k *ℤ (if t then r.high else r.low)
    by_test true = ap (λ y. k *ℤ y) (sym ends.1)
    by_test false = ap (λ y. k *ℤ y) (sym ends.0)

kept_same : (m n : ℤ) → kept_number m ≡ Some n → m ≡ n
kept_same m n e = by_test (is_form_number m) e
  where
    by_test : (t : Bool) → (if t then Some m else None) ≡ Some n → m ≡ n
    by_test true f = cc
    by_test false f = cc

times_value : (k : ℤ) (f g : Form) (s : List ℤ) → multiple_form k (Some f) ≡ Some g → form_at g s ≡ form_at f s *ℤ k
times_value k f g s e =
    kept_value (form_by k f) g s (form_at f s *ℤ k) e (ap (λ x. x +ℤ (f.constant *ℤ k)) (terms_by_at s k f.terms) ∙ sym (sum-times (terms_at f.terms s) f.constant k))

first_good : (P : Form → Type 0) (o q : Option Form) → IfSome o P → IfSome q P → IfSome (first_or o q) P
first_good P None q h k = k
first_good P (Some f) q h k = h

module _ (M : LeafMeaning) (L : LeafLaws M) (v : LeafValue) (p : M.valid v) where
  ones_at : (from : ℕ) (ts : List (ℕ × ℤ)) (s : List ℤ) → AreTerms from v.variables ts → M.holds v s → have_one_value M v ts ≡ true → terms_at ts s ≡ least_terms M v ts
  ones_at from [] s a h e = refl
  ones_at from (t ∷ ts) s a h e =
      let (x, y) = both (is_single (M.bounds_of v t.0)) (have_one_value M v ts) e in
      ap (λ n. n +ℤ terms_at ts s) (one_at t.1 (at_store s t.0) (M.bounds_of v t.0) (L.bounds_hold v t.0 s p a.1 h) x)
      ∙ ap (λ n. least_multiple t.1 (M.bounds_of v t.0) +ℤ n) (ones_at (t.0 + 1) ts s a.4 h y)
    where
      both : (a b : Bool) → (a && b) ≡ true → (a ≡ true) × (b ≡ true)
      both true b f = (refl, f)
      both false b f = cc

  known_at : (f : Form) (n : ℤ) (s : List ℤ) → IsForm v.variables f → M.holds v s → known_value M v f ≡ Some n → form_at f s ≡ n
  known_at f n s i h e = by_test (have_one_value M v f.terms) refl e
    where
      summed : (t c l n : ℤ) → t ≡ l → (c +ℤ pos 0) +ℤ l ≡ n → t +ℤ c ≡ n
      summed t c l n e f = omega (arith, ints)

      by_test : (t : Bool) → have_one_value M v f.terms ≡ t → (if t then kept_number (least_value M v f (pos 0)) else None) ≡ Some n → form_at f s ≡ n
      by_test true g k = summed (terms_at f.terms s) f.constant (least_terms M v f.terms) n (ones_at 0 f.terms s i.terms h g) (kept_same (least_value M v f (pos 0)) n k)
      by_test false g k = cc

  -- a multiple by the one value of a form is a product with it
  times_good : (f g : Form) (s : List ℤ) → IsForm v.variables f → M.holds v s → IfSome (multiple_by (known_value M v f) g) (λ h. form_at h s ≡ form_at f s *ℤ form_at g s)
  times_good f g s i h = by_value (known_value M v f) refl
    where
      by_form : (k : ℤ) (o : Option Form) → known_value M v f ≡ Some k → multiple_form k (Some g) ≡ o → IfSome o (λ h. form_at h s ≡ form_at f s *ℤ form_at g s)
      by_form k None e q = tt
      by_form k (Some u) e q = times_value k g u s q ∙ ap (λ x. form_at g s *ℤ x) (sym (known_at f k s i h e)) ∙ *ℤ_comm (form_at g s) (form_at f s)

      by_value : (o : Option ℤ) → known_value M v f ≡ o → IfSome (multiple_by o g) (λ h. form_at h s ≡ form_at f s *ℤ form_at g s)
      by_value None e = tt
      by_value (Some k) e = by_form k (multiple_form k (Some g)) e refl

  value_by_op : (op : Op) (f g : Form) (s : List ℤ) (n : ℤ) → IsForm v.variables f → IsForm v.variables g → M.holds v s → exact op (form_at f s) (form_at g s) ≡ Some n → IfSome (form_by_op M v op f g) (λ u. form_at u s ≡ n)
  value_by_op Mul f g s n i j h e =
      first_good (λ u. form_at u s ≡ n) (multiple_by (known_value M v f) g) (multiple_by (known_value M v g) f)
      (with_value (multiple_by (known_value M v f) g) (form_at f s *ℤ form_at g s) (times_good f g s i h) told)
      (with_value (multiple_by (known_value M v g) f) (form_at g s *ℤ form_at f s) (times_good g f s j h) (*ℤ_comm (form_at g s) (form_at f s) ∙ told))
    where
      told : form_at f s *ℤ form_at g s ≡ n
      told = cc

      with_value : (o : Option Form) (m : ℤ) → IfSome o (λ u. form_at u s ≡ m) → m ≡ n → IfSome o (λ u. form_at u s ≡ n)
      with_value None m k q = tt
      with_value (Some u) m k q = k ∙ q
  value_by_op Add f g s n i j h e = tt
  value_by_op Sub f g s n i j h e = tt
  value_by_op Div f g s n i j h e = tt
  value_by_op Rem f g s n i j h e = tt
  value_by_op LtOp f g s n i j h e = tt
  value_by_op LeOp f g s n i j h e = tt
  value_by_op GtOp f g s n i j h e = tt
  value_by_op GeOp f g s n i j h e = tt
  value_by_op EqOp f g s n i j h e = tt
  value_by_op NeOp f g s n i j h e = tt
  value_by_op And f g s n i j h e = tt
  value_by_op Or f g s n i j h e = tt

  operation_value : (d : Operation) (s : List ℤ) (n : ℤ) → IsOperation v.variables d → M.holds v s → Operates d s n → IfSome (operation_form M v d) (λ u. form_at u s ≡ n)
  operation_value d s n o h w = value_by_op d.op d.left d.right s n o.left o.right h w.is

-- ---- forms
multiple_has : (count : ℕ) (o : Option ℤ) (f : Form) → IsForm count f → HasForm count (multiple_by o f)
multiple_has count None f i = tt
multiple_has count (Some k) f i = multiple_is_form count k (Some f) i

pub form_has : (M : LeafMeaning) (v : LeafValue) (count : ℕ) (op : Op) (f g : Form) → IsForm count f → IsForm count g → HasForm count (form_by_op M v op f g)
form_has M v count Mul f g i j =
    first_good (IsForm count) (multiple_by (known_value M v f) g) (multiple_by (known_value M v g) f) (multiple_has count (known_value M v f) g j) (multiple_has count (known_value M v g) f i)
form_has M v count Add f g i j = tt
form_has M v count Sub f g i j = tt
form_has M v count Div f g i j = tt
form_has M v count Rem f g i j = tt
form_has M v count LtOp f g i j = tt
form_has M v count LeOp f g i j = tt
form_has M v count GtOp f g i j = tt
form_has M v count GeOp f g i j = tt
form_has M v count EqOp f g i j = tt
form_has M v count NeOp f g i j = tt
form_has M v count And f g i j = tt
form_has M v count Or f g i j = tt

pub operation_has : (M : LeafMeaning) (v : LeafValue) (count : ℕ) (d : Operation) → IsOperation count d → HasForm count (operation_form M v d)
operation_has M v count d o = form_has M v count d.op d.left d.right o.left o.right

pub less_number_has : (count : ℕ) (n : ℤ) (f : Form) → IsForm count f → HasForm count (less_number n f)
less_number_has count n f i = by_test (is_form_number (f.constant -ℤ n)) refl
  where
    by_test : (t : Bool) → is_form_number (f.constant -ℤ n) ≡ t → HasForm count (less_by f (if t then Some (f.constant -ℤ n) else None))
    by_test true e = record { terms = i.terms; constant = number_is (f.constant -ℤ n) e }
    by_test false e = tt

less_number_value : (n : ℤ) (f : Form) (s : List ℤ) → IfSome (less_number n f) (λ g. form_at g s ≡ form_at f s -ℤ n)
less_number_value n f s = by_test (is_form_number (f.constant -ℤ n))
  where
    apart : (t c n : ℤ) → t +ℤ (c -ℤ n) ≡ (t +ℤ c) -ℤ n
    apart t c n = omega (arith, ints)

    by_test : (t : Bool) → IfSome (less_by f (if t then Some (f.constant -ℤ n) else None)) (λ g. form_at g s ≡ form_at f s -ℤ n)
    by_test true = apart (terms_at f.terms s) f.constant n
    by_test false = tt

module _ (M : LeafMeaning) (L : LeafLaws M) where
  -- ---- a comparison with 0
  pub where_met_like : (w : LeafValue) (o : Option Form) (op : Compare) → M.valid w → HasForm w.variables o → IsLeafLike M w (met_where M w o op)
  where_met_like w None op p i = own M L w p
  where_met_like w (Some f) op p i =
      let j = L.meet_form_answers w f op p i in
      then_like M L w (M.meet_form w f op) (tightened M (M.meet_form w f op) f op) j (tightened_like M L (M.meet_form w f op) f op j.valid (over M L w (M.meet_form w f op) f j i))

  where_met_holds : (w : LeafValue) (o : Option Form) (op : Compare) (s : List ℤ) → M.valid w → HasForm w.variables o → M.holds w s → IfSome o (λ f. holds_between op (form_at f s) (pos 0) ≡ true) → M.holds (met_where M w o op) s
  where_met_holds w None op s p i h e = h
  where_met_holds w (Some f) op s p i h e =
      let j = L.meet_form_answers w f op p i in
      tightened_holds M L (M.meet_form w f op) f op s j.valid (over M L w (M.meet_form w f op) f j i) (L.meet_form_holds w f op s p i h e) e

  where_met_nothing : (w : LeafValue) (n : ℕ) (o : Option Form) (op : Compare) → w ≡ nothing_of n → met_where M w o op ≡ nothing_of n
  where_met_nothing w n None op e = e
  where_met_nothing w n (Some f) op e = tightened_nothing M L (M.meet_form w f op) n f op (ap (λ u. M.meet_form u f op) e ∙ L.meet_form_nothing n f op)

  -- ---- a comparison with a range
  has_over : (w u : LeafValue) (o : Option Form) → IsLeafLike M w u → HasForm w.variables o → HasForm u.variables o
  has_over w u o j i = subst (λ n. HasForm n o) (sym j.same) i

  pub between_like : (w : LeafValue) (f : Form) (op : Compare) (r : Range) → M.valid w → IsForm w.variables f → IsLeafLike M w (met_between M w f op r)
  between_like w f Lt r p i = where_met_like w (less_number r.high f) Lt p (less_number_has w.variables r.high f i)
  between_like w f Le r p i = where_met_like w (less_number r.high f) Le p (less_number_has w.variables r.high f i)
  between_like w f Gt r p i = where_met_like w (less_number r.low f) Gt p (less_number_has w.variables r.low f i)
  between_like w f Ge r p i = where_met_like w (less_number r.low f) Ge p (less_number_has w.variables r.low f i)
  between_like w f Eq r p i =
      let u = met_where M w (less_number r.low f) Ge in
      let j = where_met_like w (less_number r.low f) Ge p (less_number_has w.variables r.low f i) in
      then_like M L w u (met_where M u (less_number r.high f) Le) j (where_met_like u (less_number r.high f) Le j.valid (has_over w u (less_number r.high f) j (less_number_has w.variables r.high f i)))
  between_like w f Ne r p i =
      of_either (IsLeafLike M w) (is_single r) (met_where M w (less_number r.low f) Ne) w (where_met_like w (less_number r.low f) Ne p (less_number_has w.variables r.low f i)) (own M L w p)

  -- the form less an end of the range compares so with 0
  less_holds : (op : Compare) (n : ℤ) (f : Form) (s : List ℤ) → ((k : ℤ) → k ≡ form_at f s -ℤ n → holds_between op k (pos 0) ≡ true) → IfSome (less_number n f) (λ g. holds_between op (form_at g s) (pos 0) ≡ true)
  less_holds op n f s q = by_form (less_number n f) (less_number_value n f s)
    where
      by_form : (o : Option Form) → IfSome o (λ g. form_at g s ≡ form_at f s -ℤ n) → IfSome o (λ g. holds_between op (form_at g s) (pos 0) ≡ true)
      by_form None k = tt
      by_form (Some g) k = q (form_at g s) k

  between_holds : (w : LeafValue) (f : Form) (op : Compare) (r : Range) (s : List ℤ) (m : ℤ) → M.valid w → IsForm w.variables f → M.holds w s → Within m r → holds_between op (form_at f s) m ≡ true → M.holds (met_between M w f op r) s
  between_holds w f Lt r s m p i h k e =
      where_met_holds w (less_number r.high f) Lt s p (less_number_has w.variables r.high f i) h (less_holds Lt r.high f s (below (form_at f s) m r.high e k.high))
    where
      below : (n m l : ℤ) → int_lt n m ≡ true → m ≤ℤ l → (k : ℤ) → k ≡ n -ℤ l → int_lt k (pos 0) ≡ true
      below n m l e h k f = grind (arith, ints)
  between_holds w f Le r s m p i h k e =
      where_met_holds w (less_number r.high f) Le s p (less_number_has w.variables r.high f i) h (less_holds Le r.high f s (below (form_at f s) m r.high e k.high))
    where
      below : (n m l : ℤ) → int_le n m ≡ true → m ≤ℤ l → (k : ℤ) → k ≡ n -ℤ l → int_le k (pos 0) ≡ true
      below n m l e h k f = grind (arith, ints)
  between_holds w f Gt r s m p i h k e =
      where_met_holds w (less_number r.low f) Gt s p (less_number_has w.variables r.low f i) h (less_holds Gt r.low f s (above (form_at f s) m r.low e k.low))
    where
      above : (n m l : ℤ) → int_lt m n ≡ true → l ≤ℤ m → (k : ℤ) → k ≡ n -ℤ l → int_lt (pos 0) k ≡ true
      above n m l e h k f = grind (arith, ints)
  between_holds w f Ge r s m p i h k e =
      where_met_holds w (less_number r.low f) Ge s p (less_number_has w.variables r.low f i) h (less_holds Ge r.low f s (above (form_at f s) m r.low e k.low))
    where
      above : (n m l : ℤ) → int_le m n ≡ true → l ≤ℤ m → (k : ℤ) → k ≡ n -ℤ l → int_le (pos 0) k ≡ true
      above n m l e h k f = grind (arith, ints)
  between_holds w f Eq r s m p i h k e =
      let u = met_where M w (less_number r.low f) Ge in
      let j = where_met_like w (less_number r.low f) Ge p (less_number_has w.variables r.low f i) in
      where_met_holds u (less_number r.high f) Le s j.valid (has_over w u (less_number r.high f) j (less_number_has w.variables r.high f i))
      (where_met_holds w (less_number r.low f) Ge s p (less_number_has w.variables r.low f i) h (less_holds Ge r.low f s (above (form_at f s) m r.low e k.low)))
      (less_holds Le r.high f s (below (form_at f s) m r.high e k.high))
    where
      below : (n m l : ℤ) → int_eq n m ≡ true → m ≤ℤ l → (k : ℤ) → k ≡ n -ℤ l → int_le k (pos 0) ≡ true
      below n m l e h k f = grind (arith, ints)

      above : (n m l : ℤ) → int_eq n m ≡ true → l ≤ℤ m → (k : ℤ) → k ≡ n -ℤ l → int_le (pos 0) k ≡ true
      above n m l e h k f = grind (arith, ints)
  between_holds w f Ne r s m p i h k e = by_test (is_single r) refl
    where
      apart : (n m l j : ℤ) → not (int_eq n m) ≡ true → l ≤ℤ m → m ≤ℤ j → int_eq l j ≡ true → (k : ℤ) → k ≡ n -ℤ l → not (int_eq k (pos 0)) ≡ true
      apart n m l j e g h d k f = grind (arith, ints)

      by_test : (t : Bool) → is_single r ≡ t → M.holds (if t then met_where M w (less_number r.low f) Ne else w) s
      by_test true d =
          where_met_holds w (less_number r.low f) Ne s p (less_number_has w.variables r.low f i) h (less_holds Ne r.low f s (apart (form_at f s) m r.low r.high e k.low k.high d))
      by_test false d = h

  between_nothing : (w : LeafValue) (n : ℕ) (f : Form) (op : Compare) (r : Range) → w ≡ nothing_of n → met_between M w f op r ≡ nothing_of n
  between_nothing w n f Lt r e = where_met_nothing w n (less_number r.high f) Lt e
  between_nothing w n f Le r e = where_met_nothing w n (less_number r.high f) Le e
  between_nothing w n f Gt r e = where_met_nothing w n (less_number r.low f) Gt e
  between_nothing w n f Ge r e = where_met_nothing w n (less_number r.low f) Ge e
  between_nothing w n f Eq r e = where_met_nothing (met_where M w (less_number r.low f) Ge) n (less_number r.high f) Le (where_met_nothing w n (less_number r.low f) Ge e)
  between_nothing w n f Ne r e = of_either (λ u. u ≡ nothing_of n) (is_single r) (met_where M w (less_number r.low f) Ne) w (where_met_nothing w n (less_number r.low f) Ne e) e

  -- ---- a comparison of an operation
  met_like : (w : LeafValue) (o : Option Form) (op : Compare) (r : Range) → M.valid w → HasForm w.variables o → IsLeafLike M w (operation_met M w o op r)
  met_like w None op r p i = own M L w p
  met_like w (Some f) op r p i = between_like w f op r p i

  met_holds : (w : LeafValue) (o : Option Form) (op : Compare) (r : Range) (s : List ℤ) (n m : ℤ) → M.valid w → HasForm w.variables o → M.holds w s → IfSome o (λ f. form_at f s ≡ n) → Within m r → holds_between op n m ≡ true → M.holds (operation_met M w o op r) s
  met_holds w None op r s n m p i h q k e = h
  met_holds w (Some f) op r s n m p i h q k e = between_holds w f op r s m p i h k (ap (λ x. holds_between op x m) q ∙ e)

  pub met_answers : (a : LeafValue) (d : Operation) (op : Compare) (r : Range) (w : LeafValue) → IsOperation a.variables d → IsLeafLike M a w → IsLeafLike M a (operation_met M w (operation_form M a d) op r)
  met_answers a d op r w o j =
      then_like M L a w (operation_met M w (operation_form M a d) op r) j (met_like w (operation_form M a d) op r j.valid (has_over a w (operation_form M a d) j (operation_has M a a.variables d o)))

  pub met_keeps : (a : LeafValue) (d : Operation) (op : Compare) (r : Range) (w : LeafValue) (s : List ℤ) (n m : ℤ) → M.valid a → IsOperation a.variables d → IsLeafLike M a w → M.holds a s → M.holds w s → Operates d s n → Within m r → holds_between op n m ≡ true
      → M.holds (operation_met M w (operation_form M a d) op r) s
  met_keeps a d op r w s n m p o j h k g i e =
      met_holds w (operation_form M a d) op r s n m j.valid (has_over a w (operation_form M a d) j (operation_has M a a.variables d o)) k (operation_value M L a p d s n o h g) i e

  pub met_nothing : (w : LeafValue) (n : ℕ) (o : Option Form) (op : Compare) (r : Range) → w ≡ nothing_of n → operation_met M w o op r ≡ nothing_of n
  met_nothing w n None op r e = e
  met_nothing w n (Some f) op r e = between_nothing w n f op r e

  -- ---- an assignment of an operation
  set_like : (a : LeafValue) (x : ℕ) (o : Option Form) (w : LeafValue) → M.valid a → x < a.variables → HasForm a.variables o → IsLeafLike M a w → IsLeafLike M a (operation_set M a x o w)
  set_like a x None w p l i j = j
  set_like a x (Some f) w p l i j =
      of_either (IsLeafLike M a) (has_variable x f.terms) (set_met M a x f w) (met_where M w (form_less_variable x f) Eq) (set_met_like M L a p x f l i w j)
      (then_like M L a w (met_where M w (form_less_variable x f) Eq) j (where_met_like w (form_less_variable x f) Eq j.valid (less_has w.variables x f (counted M L a w x j l) (over M L a w f j i))))

  zero_at : (x : ℕ) (f : Form) (s : List ℤ) → x < length s → has_variable x f.terms ≡ false → IfSome (form_less_variable x f) (λ g. holds_between Eq (form_at g (slice_set s x (form_at f s))) (pos 0) ≡ true)
  zero_at x f s k d = by_form (form_less_variable x f) refl
    where
      is_zero : (a t c w u : ℤ) → a ≡ (t +ℤ c) -ℤ w → t ≡ u → w ≡ u +ℤ c → int_eq a (pos 0) ≡ true
      is_zero a t c w u e g h = let z : a ≡ pos 0 = omega (arith, ints, e, g, h) in grind (arith, ints)

      by_form : (o : Option Form) → form_less_variable x f ≡ o → IfSome o (λ g. holds_between Eq (form_at g (slice_set s x (form_at f s))) (pos 0) ≡ true)
      by_form None e = tt
      by_form (Some g) e =
          let S = slice_set s x (form_at f s) in
          is_zero (form_at g S) (terms_at f.terms S) f.constant (at_store S x) (terms_at f.terms s) (less_value x f g S e) (terms_other f.terms s x (form_at f s) d) (set_at s x (form_at f s) k)

  set_holds : (a : LeafValue) (x : ℕ) (o : Option Form) (w : LeafValue) (s : List ℤ) (n : ℤ) → M.valid a → x < a.variables → HasForm a.variables o → IsLeafLike M a w → M.holds a s → IfSome o (λ f. form_at f s ≡ n) → M.holds w (slice_set s x n) → M.holds (operation_set M a x o w) (slice_set s x n)
  set_holds a x None w s n p l i j h q k = k
  set_holds a x (Some f) w s n p l i j h q k = subst (λ m. M.holds (operation_set M a x (Some f) w) (slice_set s x m)) q (by_test (has_variable x f.terms) refl (subst (λ m. M.holds w (slice_set s x m)) (sym q) k))
    where
      by_test : (t : Bool) → has_variable x f.terms ≡ t → M.holds w (slice_set s x (form_at f s)) → M.holds (if t then set_met M a x f w else met_where M w (form_less_variable x f) Eq) (slice_set s x (form_at f s))
      by_test true d g = set_met_holds M L a p x f l i w s j h g
      by_test false d g =
          where_met_holds w (form_less_variable x f) Eq (slice_set s x (form_at f s)) j.valid (less_has w.variables x f (counted M L a w x j l) (over M L a w f j i)) g
          (zero_at x f s (subst (λ n. x < n) (sym (L.holds_length a s p h)) l) d)

  pub set_answers : (a : LeafValue) (x : ℕ) (d : Operation) (w : LeafValue) → M.valid a → x < a.variables → IsOperation a.variables d → IsLeafLike M a w → IsLeafLike M a (operation_set M a x (operation_form M a d) w)
  set_answers a x d w p l o j = set_like a x (operation_form M a d) w p l (operation_has M a a.variables d o) j

  pub set_keeps : (a : LeafValue) (x : ℕ) (d : Operation) (w : LeafValue) (s : List ℤ) (n : ℤ) → M.valid a → x < a.variables → IsOperation a.variables d → IsLeafLike M a w → M.holds a s → Operates d s n → M.holds w (slice_set s x n)
      → M.holds (operation_set M a x (operation_form M a d) w) (slice_set s x n)
  set_keeps a x d w s n p l o j h g k = set_holds a x (operation_form M a d) w s n p l (operation_has M a a.variables d o) j h (operation_value M L a p d s n o h g) k

  pub set_nothing_too : (a w : LeafValue) (n x : ℕ) (o : Option Form) → w ≡ nothing_of n → operation_set M a x o w ≡ nothing_of n
  set_nothing_too a w n x None e = e
  set_nothing_too a w n x (Some f) e =
      of_either (λ u. u ≡ nothing_of n) (has_variable x f.terms) (set_met M a x f w) (met_where M w (form_less_variable x f) Eq) (set_met_nothing M a w n x f e) (where_met_nothing w n (form_less_variable x f) Eq e)

-- ---- what the code finds
pub next_known : (M : LeafMeaning) (v : LeafValue) (rest behind : List (ℕ × ℤ)) (x : ℕ) (k : ℤ) (r : Range) (b : Bool) → rest ≡ (x, k) ∷ behind → r ≡ M.bounds_of v x → b ≡ is_single r → b ≡ true → have_one_value M v behind ≡ have_one_value M v rest
next_known M v rest behind x k r b e f g h =
    let i : is_single (M.bounds_of v x) ≡ true = ap is_single (sym f) ∙ sym g ∙ h in
    sym (ap (have_one_value M v) e ∙ ap (λ y. y && have_one_value M v behind) i)
