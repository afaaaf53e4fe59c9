-- The value of an expression is that of its form.
use Rattle.std.proofs.Common.{◌≡◌, ℕ, ℤ, pos, negsuc, neg_ℤ, ◌+ℤ◌, ◌-ℤ◌, ◌*ℤ◌, Bool, true, false, ◌&&◌, if◌then◌else◌, List, [], ◌∷◌, Option, Some, None, sym, ap, refl, ◌∙◌, subst, arith, slice_index_or}
use Rattle.std.proofs.lemmas.Int.{ints}
use Rattle.std.proofs.Math.IntN.{*ℤ_comm}
use Rattle.c_tree.specs.declared.tree.Op.TheVariants.{Add, Sub, Mul}
use Rattle.c_tree.specs.Tree.{Term, Number, Var, Neg, Binary}
use Rattle.leaf_domain.specs.declared.form.Form.{Form}
use Rattle.leaf_domain.specs.Forms.{terms_at, form_at, form_sum, form_by, are_form_numbers, is_form_number, kept_form, sum_form, multiple_form, difference_form, product_form, has_no_term, form_of_term}
use Rattle.linear_terms.specs.Terms.{terms_sum, terms_by}
use Rattle.linear_terms.proofs.Integers.{sum-times}
use Rattle.linear_terms.proofs.Values.{terms_sum_at, terms_by_at}

module _ (s : List ℤ) where
  abbrev worth : ℕ → ℤ
  worth x = slice_index_or s x (pos 0)

  form_sum_at : (f g : Form) → form_at (form_sum f g) s ≡ form_at f s +ℤ form_at g s
  form_sum_at f g = let e : terms_at (terms_sum f.terms g.terms) s ≡ terms_at f.terms s +ℤ terms_at g.terms s = terms_sum_at s f.terms g.terms in omega (arith, ints)

  form_by_at : (k : ℤ) (f : Form) → form_at (form_by k f) s ≡ form_at f s *ℤ k
  form_by_at k f =
      let e : terms_at (terms_by k f.terms) s ≡ terms_at f.terms s *ℤ k = terms_by_at s k f.terms in
      let g : (terms_at f.terms s +ℤ f.constant) *ℤ k ≡ terms_at f.terms s *ℤ k +ℤ f.constant *ℤ k = sum-times (terms_at f.terms s) f.constant k in
      omega (arith, ints)

  -- ---- forms that are there

  abbrev Kept : Bool → Form → Option Form
  Kept t f = if t then Some f else None

  kept_by_test : (t : Bool) (f d : Form) → Kept t f ≡ Some d → f ≡ d
  kept_by_test true f d e = cc
  kept_by_test false f d e = cc

  kept_is : (f d : Form) → kept_form f ≡ Some d → f ≡ d
  kept_is f d e = kept_by_test (are_form_numbers f.terms && is_form_number f.constant) f d e

  -- the form, where there is one, has this value
  abbrev pub Comes : Option Form → ℤ → Type 0
  Comes o n = (d : Form) → o ≡ Some d → form_at d s ≡ n

  kept_comes : (f : Form) (n : ℤ) → form_at f s ≡ n → Comes (kept_form f) n
  kept_comes f n e d k = subst (λ (x : Form). form_at x s ≡ n) (kept_is f d k) e

  sum_comes : (o p : Option Form) (n m : ℤ) → Comes o n → Comes p m → Comes (sum_form o p) (n +ℤ m)
  sum_comes (Some f) (Some g) n m h k d e =
      let a : form_at f s ≡ n = h f refl in
      let b : form_at g s ≡ m = k g refl in
      kept_comes (form_sum f g) (n +ℤ m) (form_sum_at f g ∙ ap (λ x. x +ℤ form_at g s) a ∙ ap (λ x. n +ℤ x) b) d e
  sum_comes (Some f) None n m h k d e = cc
  sum_comes None p n m h k d e = cc

  multiple_comes : (c : ℤ) (o : Option Form) (n : ℤ) → Comes o n → Comes (multiple_form c o) (n *ℤ c)
  multiple_comes c (Some f) n h d e = kept_comes (form_by c f) (n *ℤ c) (form_by_at c f ∙ ap (λ x. x *ℤ c) (h f refl)) d e
  multiple_comes c None n h d e = cc

  times_less : (n : ℤ) → n *ℤ negsuc 0 ≡ neg_ℤ n
  times_less n = omega (arith, ints)

  negated_comes : (o : Option Form) (n : ℤ) → Comes o n → Comes (multiple_form (negsuc 0) o) (neg_ℤ n)
  negated_comes o n h d e = multiple_comes (negsuc 0) o n h d e ∙ times_less n

  difference_comes : (o p : Option Form) (n m : ℤ) → Comes o n → Comes p m → Comes (difference_form o p) (n -ℤ m)
  difference_comes o p n m h k d e = sum_comes o (multiple_form (negsuc 0) p) n (neg_ℤ m) h (negated_comes p m k) d e ∙ minus n m
    where
      minus : (a b : ℤ) → a +ℤ neg_ℤ b ≡ a -ℤ b
      minus a b = omega (arith, ints)

  constant_value : (ts : List (ℕ × ℤ)) (c : ℤ) → has_no_term ts ≡ true → terms_at ts s +ℤ c ≡ c
  constant_value [] c e = omega (arith, ints)
  constant_value (t ∷ ts) c e = cc

  product_by_tests : (t u : Bool) (f g : Form) (n m : ℤ) → has_no_term f.terms ≡ t → has_no_term g.terms ≡ u → form_at f s ≡ n → form_at g s ≡ m
      → Comes (if t then multiple_form f.constant (Some g) else (if u then multiple_form g.constant (Some f) else None)) (n *ℤ m)
  product_by_tests true u f g n m e i h k d j =
      let c : f.constant ≡ n = sym (constant_value f.terms f.constant e) ∙ h in
      kept_comes (form_by f.constant g) (m *ℤ f.constant) (form_by_at f.constant g ∙ ap (λ x. x *ℤ f.constant) k) d j ∙ ap (λ x. m *ℤ x) c ∙ *ℤ_comm m n
  product_by_tests false true f g n m e i h k d j =
      let c : g.constant ≡ m = sym (constant_value g.terms g.constant i) ∙ k in
      kept_comes (form_by g.constant f) (n *ℤ g.constant) (form_by_at g.constant f ∙ ap (λ x. x *ℤ g.constant) h) d j ∙ ap (λ x. n *ℤ x) c
  product_by_tests false false f g n m e i h k d j = cc

  product_comes : (o p : Option Form) (n m : ℤ) → Comes o n → Comes p m → Comes (product_form o p) (n *ℤ m)
  product_comes (Some f) (Some g) n m h k d e = product_by_tests (has_no_term f.terms) (has_no_term g.terms) f g n m refl refl (h f refl) (k g refl) d e
  product_comes (Some f) None n m h k d e = cc
  product_comes None p n m h k d e = cc

  -- ---- the forms of expressions

  pub number_comes : (n : ℤ) → Comes (form_of_term (Number n)) n
  number_comes n = kept_comes (record { terms = []; constant = n }) n (omega (arith, ints))

  pub variable_comes : (x : ℕ) → Comes (form_of_term (Var x)) (worth x)
  variable_comes x d e = subst (λ (f : Form). form_at f s ≡ worth x) (same d e) (once (worth x))
    where
      once : (a : ℤ) → (pos 1 *ℤ a +ℤ pos 0) +ℤ pos 0 ≡ a
      once a = omega (arith, ints)

      same : (d : Form) → form_of_term (Var x) ≡ Some d → record { terms = (x, pos 1) ∷ []; constant = pos 0 } ≡ d
      same d e = cc

  pub neg_comes : (a : Term) (n : ℤ) → Comes (form_of_term a) n → Comes (form_of_term (Neg a)) (neg_ℤ n)
  neg_comes a n h = negated_comes (form_of_term a) n h

  pub add_comes : (a b : Term) (n m : ℤ) → Comes (form_of_term a) n → Comes (form_of_term b) m → Comes (form_of_term (Binary Add a b)) (n +ℤ m)
  add_comes a b n m h k = sum_comes (form_of_term a) (form_of_term b) n m h k

  pub sub_comes : (a b : Term) (n m : ℤ) → Comes (form_of_term a) n → Comes (form_of_term b) m → Comes (form_of_term (Binary Sub a b)) (n -ℤ m)
  sub_comes a b n m h k = difference_comes (form_of_term a) (form_of_term b) n m h k

  pub mul_comes : (a b : Term) (n m : ℤ) → Comes (form_of_term a) n → Comes (form_of_term b) m → Comes (form_of_term (Binary Mul a b)) (n *ℤ m)
  mul_comes a b n m h k = product_comes (form_of_term a) (form_of_term b) n m h k
