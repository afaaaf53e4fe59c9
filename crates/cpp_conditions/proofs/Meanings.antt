-- The condition that an expression means is true exactly where its value is not 0.
use Rattle.std.proofs.Common.{◌≡◌, ℕ, suc, ◌*◌, ℤ, pos, negsuc, neg_ℤ, ◌+ℤ◌, ◌-ℤ◌, ◌*ℤ◌, ◌≤ℤ◌, ◌<ℤ◌, int_lt, int_le, Bool, true, false, not, ◌&&◌, ◌||◌, if◌then◌else◌, List, [], Option, Some, None, is_some, sym, ap, refl, ◌∙◌, arith, get_or}
use Rattle.std.proofs.lemmas.Int.{ints}
use Rattle.std.proofs.Math.IntN.{*ℤ_comm, +ℤ_idl, pos-*ℤ-pos, negsuc-*ℤ-pos}
use Rattle.std.specs.Ordering.{int_eq}
use Rattle.linear_atoms.specs.declared.forms.Linear.{Linear}
use Rattle.linear_atoms.specs.declared.atoms.Atom.{Atom}
use Rattle.linear_atoms.specs.declared.atoms.Feature.{Feature}
use Rattle.linear_atoms.specs.declared.normal.Normal.{Normal}
use Rattle.linear_atoms.specs.declared.normal.Normal.TheVariants as normals
use Rattle.linear_atoms.specs.Forms.{IsRising, form_at, sum_at, constant_form, feature_form, form_sum, form_by, terms_sum, terms_by}
use Rattle.linear_atoms.specs.Atoms.{holds, IsWithin}
use Rattle.linear_atoms.specs.Normal.{normal_of, normal_holds}
use Rattle.linear_atoms.specs.Ranges.{extreme_sum, decided_of}
use Rattle.linear_atoms.specs.Texts.{boolean_at}
use Rattle.linear_atoms.proofs.Extremes.{always, never}
use Rattle.linear_terms.proofs.Sums.{terms_sum_rises, terms_by_rises}
use Rattle.linear_atoms.proofs.Truths.{truth_kept}
use Rattle.linear_atoms.proofs.Values.{form_sum_at, form_by_at}
use Rattle.cpp_conditions.specs.Propositions.{Proposition, Not, true_at}
use Rattle.cpp_conditions.specs.declared.operators.Operator.{Operator}
use Rattle.cpp_conditions.specs.declared.operators.Operator.TheVariants.{Times, Plus, Minus, Less, AtMost, Greater, AtLeast, Equal, Differs, Both, Either}
use Rattle.cpp_conditions.specs.declared.operators.Prefix.{Prefix}
use Rattle.cpp_conditions.specs.declared.operators.Prefix.TheVariants.{Positive, Negative, Inverse}
use Rattle.cpp_conditions.specs.Expressions.{Expression, Number, Name, IsDefined, Unary, Binary, found, value_at, defined_at, is_nonzero, value}
use Rattle.cpp_conditions.specs.Meaning.{is_truth, is_boolean, names_feature, is_linear, name_form, defined_form, difference, form_before, form_between, form, kept, signed, test_of, at_least_zero, less_one, is_zero, cond}
use Rattle.cpp_conditions.proofs.Signs.{minus_one, at_least, greater, at_most, less, bit_of, zero_test, equal_test}

times_one : (v : ℤ) → v *ℤ pos 1 ≡ v
times_one (pos n) = let e : n * 1 ≡ n = omega arith in pos-*ℤ-pos n 1 ∙ ap pos e
times_one (negsuc n) = let e : suc n * 1 ≡ suc n = omega arith in negsuc-*ℤ-pos n 1 ∙ ap (λ x. neg_ℤ (pos x)) e

and_left : (a b : Bool) → (a && b) ≡ true → a ≡ true
and_left true b e = refl
and_left false b e = e

and_right : (a b : Bool) → (a && b) ≡ true → b ≡ true
and_right true b e = e
and_right false b e = cc

not_true : (a : Bool) → not a ≡ true → a ≡ false
not_true true e = sym e
not_true false e = refl

or_left : (a b : Bool) → (a || b) ≡ false → a ≡ false
or_left true b e = e
or_left false b e = refl

or_right : (a b : Bool) → (a || b) ≡ false → b ≡ false
or_right true b e = cc
or_right false b e = e

-- ---- forms rise

named_rises : (o : Option ℕ) → IsRising (name_form o).terms
named_rises None = tt
named_rises (Some n) = (omega arith, (λ e. cc), tt)

defined_by : (b : Bool) (n : ℕ) → IsRising (if b then feature_form n else constant_form (pos 1)).terms
defined_by true n = (omega arith, (λ e. cc), tt)
defined_by false n = tt

defined_rises : (fs : List Feature) (o : Option ℕ) → IsRising (defined_form fs o).terms
defined_rises fs None = tt
defined_rises fs (Some n) = defined_by (boolean_at fs n) n

difference_rises : (a b : Linear) → IsRising a.terms → IsRising b.terms → IsRising (difference a b).terms
difference_rises a b p q = terms_sum_rises 0 a.terms (terms_by (negsuc 0) b.terms) p (terms_by_rises (negsuc 0) 0 b.terms q)

product_rises : (named : Bool) (a b : Linear) → IsRising a.terms → IsRising b.terms → IsRising (form_between Times named a b).terms
product_rises true a b p q = terms_by_rises b.constant 0 a.terms p
product_rises false a b p q = terms_by_rises a.constant 0 b.terms q

between_rises : (op : Operator) (named : Bool) (a b : Linear) → IsRising a.terms → IsRising b.terms → IsRising (form_between op named a b).terms
between_rises Times named a b p q = product_rises named a b p q
between_rises Plus named a b p q = terms_sum_rises 0 a.terms b.terms p q
between_rises Minus named a b p q = difference_rises a b p q
between_rises Less named a b p q = difference_rises a b p q
between_rises AtMost named a b p q = difference_rises a b p q
between_rises Greater named a b p q = difference_rises a b p q
between_rises AtLeast named a b p q = difference_rises a b p q
between_rises Equal named a b p q = difference_rises a b p q
between_rises Differs named a b p q = difference_rises a b p q
between_rises Both named a b p q = difference_rises a b p q
between_rises Either named a b p q = difference_rises a b p q

before_rises : (u : Prefix) (a : Linear) → IsRising a.terms → IsRising (form_before u a).terms
before_rises Positive a p = p
before_rises Negative a p = terms_by_rises (negsuc 0) 0 a.terms p
before_rises Inverse a p = p

pub form_rises : (fs : List Feature) (e : Expression) → IsRising (form fs e).terms
form_rises fs (Number n) = tt
form_rises fs (Name name) = named_rises (found name fs)
form_rises fs (IsDefined name) = defined_rises fs (found name fs)
form_rises fs (Unary u e) = before_rises u (form fs e) (form_rises fs e)
form_rises fs (Binary op a b) = between_rises op (names_feature fs a) (form fs a) (form fs b) (form_rises fs a) (form_rises fs b)

-- ---- a form that names no feature has no term

plain_name : (o : Option ℕ) → is_some o ≡ false → (name_form o).terms ≡ []
plain_name None e = refl
plain_name (Some n) e = cc

plain_defined_by : (b : Bool) (n : ℕ) → b ≡ false → (if b then feature_form n else constant_form (pos 1)).terms ≡ []
plain_defined_by true n e = cc
plain_defined_by false n e = refl

plain_defined : (fs : List Feature) (o : Option ℕ) → is_boolean fs o ≡ false → (defined_form fs o).terms ≡ []
plain_defined fs None e = refl
plain_defined fs (Some n) e = plain_defined_by (boolean_at fs n) n e

plain_difference : (a b : Linear) → a.terms ≡ [] → b.terms ≡ [] → (difference a b).terms ≡ []
plain_difference a b p q = ap (λ x. terms_sum x (terms_by (negsuc 0) b.terms)) p ∙ ap (λ x. terms_by (negsuc 0) x) q

plain_product : (named : Bool) (a b : Linear) → a.terms ≡ [] → b.terms ≡ [] → (form_between Times named a b).terms ≡ []
plain_product true a b p q = ap (terms_by b.constant) p
plain_product false a b p q = ap (terms_by a.constant) q

plain_between : (op : Operator) (named : Bool) (a b : Linear) → a.terms ≡ [] → b.terms ≡ [] → (form_between op named a b).terms ≡ []
plain_between Times named a b p q = plain_product named a b p q
plain_between Plus named a b p q = ap (λ x. terms_sum x b.terms) p ∙ q
plain_between Minus named a b p q = plain_difference a b p q
plain_between Less named a b p q = plain_difference a b p q
plain_between AtMost named a b p q = plain_difference a b p q
plain_between Greater named a b p q = plain_difference a b p q
plain_between AtLeast named a b p q = plain_difference a b p q
plain_between Equal named a b p q = plain_difference a b p q
plain_between Differs named a b p q = plain_difference a b p q
plain_between Both named a b p q = plain_difference a b p q
plain_between Either named a b p q = plain_difference a b p q

plain_before : (u : Prefix) (a : Linear) → a.terms ≡ [] → (form_before u a).terms ≡ []
plain_before Positive a p = p
plain_before Negative a p = ap (terms_by (negsuc 0)) p
plain_before Inverse a p = p

pub plain_form : (fs : List Feature) (e : Expression) → names_feature fs e ≡ false → (form fs e).terms ≡ []
plain_form fs (Number n) h = refl
plain_form fs (Name name) h = plain_name (found name fs) h
plain_form fs (IsDefined name) h = plain_defined fs (found name fs) h
plain_form fs (Unary u e) h = plain_before u (form fs e) (plain_form fs e h)
plain_form fs (Binary op a b) h =
    plain_between op (names_feature fs a) (form fs a) (form fs b) (plain_form fs a (or_left (names_feature fs a) (names_feature fs b) h)) (plain_form fs b (or_right (names_feature fs a) (names_feature fs b) h))

module _ (fs : List Feature) (values : List ℤ) where
  -- ---- a number's form has its value

  abbrev worth : Linear → ℤ
  worth a = form_at a values

  abbrev val : Expression → ℤ
  val e = value fs values e

  one_times : (v : ℤ) → pos 1 *ℤ v +ℤ pos 0 +ℤ pos 0 ≡ v
  one_times v = let e : pos 1 *ℤ v ≡ v = *ℤ_comm (pos 1) v ∙ times_one v in omega (arith, ints)

  feature_worth : (n : ℕ) → worth (feature_form n) ≡ get_or values n (pos 0)
  feature_worth n = one_times (get_or values n (pos 0))

  name_worth : (o : Option ℕ) → worth (name_form o) ≡ value_at values o
  name_worth None = refl
  name_worth (Some n) = feature_worth n

  defined_worth_by : (b : Bool) (n : ℕ) → worth (if b then feature_form n else constant_form (pos 1)) ≡ (if b then get_or values n (pos 0) else pos 1)
  defined_worth_by true n = feature_worth n
  defined_worth_by false n = refl

  defined_worth : (o : Option ℕ) → worth (defined_form fs o) ≡ defined_at fs values o
  defined_worth None = refl
  defined_worth (Some n) = defined_worth_by (boolean_at fs n) n

  negated_worth : (a : Linear) → worth (form_by (negsuc 0) a) ≡ neg_ℤ (worth a)
  negated_worth a = form_by_at values (negsuc 0) a ∙ minus_one (worth a)

  difference_worth : (a b : Linear) → worth (difference a b) ≡ worth a -ℤ worth b
  difference_worth a b =
      let e : worth (form_sum a (form_by (negsuc 0) b)) ≡ worth a +ℤ worth (form_by (negsuc 0) b) = form_sum_at values a (form_by (negsuc 0) b) in
      let f : worth (form_by (negsuc 0) b) ≡ neg_ℤ (worth b) = negated_worth b in
      omega (arith, ints)

  constant_worth : (a : Linear) → a.terms ≡ [] → worth a ≡ a.constant
  constant_worth a e = ap (λ x. sum_at x values +ℤ a.constant) e ∙ +ℤ_idl a.constant

  product_worth : (named : Bool) (a b : Linear) → (named ≡ true → b.terms ≡ []) → (named ≡ false → a.terms ≡ []) → worth (form_between Times named a b) ≡ worth a *ℤ worth b
  product_worth true a b p q = form_by_at values b.constant a ∙ ap (λ x. worth a *ℤ x) (sym (constant_worth b (p refl)))
  product_worth false a b p q = form_by_at values a.constant b ∙ ap (λ x. worth b *ℤ x) (sym (constant_worth a (q refl))) ∙ *ℤ_comm (worth b) (worth a)

  difference_value : (a b : Expression) → worth (form fs a) ≡ val a → worth (form fs b) ≡ val b → worth (difference (form fs a) (form fs b)) ≡ val a -ℤ val b
  difference_value a b p q = difference_worth (form fs a) (form fs b) ∙ ap (λ x. x -ℤ worth (form fs b)) p ∙ ap (λ x. val a -ℤ x) q

  named_both : (p q : Bool) → not (p && q) ≡ true → p ≡ true → q ≡ false
  named_both true true h e = cc
  named_both true false h e = refl
  named_both false q h e = cc

  product_value : (a b : Expression) → not (names_feature fs a && names_feature fs b) ≡ true → worth (form fs a) ≡ val a → worth (form fs b) ≡ val b → worth (form fs (Binary Times a b)) ≡ val a *ℤ val b
  product_value a b h p q =
      product_worth (names_feature fs a) (form fs a) (form fs b) (λ e. plain_form fs b (named_both (names_feature fs a) (names_feature fs b) h e)) (λ e. plain_form fs a e)
      ∙ ap (λ x. x *ℤ worth (form fs b)) p ∙ ap (λ x. val a *ℤ x) q

  pub form_value : (e : Expression) → is_truth e ≡ false → is_linear fs e ≡ true → worth (form fs e) ≡ val e
  form_value (Number n) t l = +ℤ_idl (pos n)
  form_value (Name name) t l = name_worth (found name fs)
  form_value (IsDefined name) t l = defined_worth (found name fs)
  form_value (Unary Positive e) t l = form_value e (not_true (is_truth e) (and_right (is_linear fs e) (not (is_truth e)) l)) (and_left (is_linear fs e) (not (is_truth e)) l)
  form_value (Unary Negative e) t l = negated_worth (form fs e) ∙ ap neg_ℤ (form_value e (not_true (is_truth e) (and_right (is_linear fs e) (not (is_truth e)) l)) (and_left (is_linear fs e) (not (is_truth e)) l))
  form_value (Unary Inverse e) t l = cc
  form_value (Binary Times a b) t l =
      let k = and_left (is_linear fs a && is_linear fs b) ((not (is_truth a) && not (is_truth b)) && not (names_feature fs a && names_feature fs b)) l in
      let s = and_right (is_linear fs a && is_linear fs b) ((not (is_truth a) && not (is_truth b)) && not (names_feature fs a && names_feature fs b)) l in
      let m = and_left (not (is_truth a) && not (is_truth b)) (not (names_feature fs a && names_feature fs b)) s in
      product_value a b (and_right (not (is_truth a) && not (is_truth b)) (not (names_feature fs a && names_feature fs b)) s)
      (form_value a (not_true (is_truth a) (and_left (not (is_truth a)) (not (is_truth b)) m)) (and_left (is_linear fs a) (is_linear fs b) k))
      (form_value b (not_true (is_truth b) (and_right (not (is_truth a)) (not (is_truth b)) m)) (and_right (is_linear fs a) (is_linear fs b) k))
  form_value (Binary Plus a b) t l =
      let k = and_left (is_linear fs a && is_linear fs b) (not (is_truth a) && not (is_truth b)) l in
      let m = and_right (is_linear fs a && is_linear fs b) (not (is_truth a) && not (is_truth b)) l in
      form_sum_at values (form fs a) (form fs b)
      ∙ ap (λ x. x +ℤ worth (form fs b)) (form_value a (not_true (is_truth a) (and_left (not (is_truth a)) (not (is_truth b)) m)) (and_left (is_linear fs a) (is_linear fs b) k))
      ∙ ap (λ x. val a +ℤ x) (form_value b (not_true (is_truth b) (and_right (not (is_truth a)) (not (is_truth b)) m)) (and_right (is_linear fs a) (is_linear fs b) k))
  form_value (Binary Minus a b) t l =
      let k = and_left (is_linear fs a && is_linear fs b) (not (is_truth a) && not (is_truth b)) l in
      let m = and_right (is_linear fs a && is_linear fs b) (not (is_truth a) && not (is_truth b)) l in
      difference_value a b
      (form_value a (not_true (is_truth a) (and_left (not (is_truth a)) (not (is_truth b)) m)) (and_left (is_linear fs a) (is_linear fs b) k))
      (form_value b (not_true (is_truth b) (and_right (not (is_truth a)) (not (is_truth b)) m)) (and_right (is_linear fs a) (is_linear fs b) k))
  form_value (Binary Less a b) t l = cc
  form_value (Binary AtMost a b) t l = cc
  form_value (Binary Greater a b) t l = cc
  form_value (Binary AtLeast a b) t l = cc
  form_value (Binary Equal a b) t l = cc
  form_value (Binary Differs a b) t l = cc
  form_value (Binary Both a b) t l = cc
  form_value (Binary Either a b) t l = cc

  -- the operands of a comparison
  compared : (a b : Expression) → ((is_linear fs a && is_linear fs b) && (not (is_truth a) && not (is_truth b))) ≡ true → worth (difference (form fs a) (form fs b)) ≡ val a -ℤ val b
  compared a b l =
      let k = and_left (is_linear fs a && is_linear fs b) (not (is_truth a) && not (is_truth b)) l in
      let m = and_right (is_linear fs a && is_linear fs b) (not (is_truth a) && not (is_truth b)) l in
      difference_value a b
      (form_value a (not_true (is_truth a) (and_left (not (is_truth a)) (not (is_truth b)) m)) (and_left (is_linear fs a) (is_linear fs b) k))
      (form_value b (not_true (is_truth b) (and_right (not (is_truth a)) (not (is_truth b)) m)) (and_right (is_linear fs a) (is_linear fs b) k))

  -- ---- tests

  module _ (within : IsWithin fs values) where
    reached : (x y : ℤ) → true ≡ int_le x y → x ≤ℤ y
    reached x y e = let f : int_le x y ≡ true = sym e in grind (arith, ints)

    missed : (x y : ℤ) → true ≡ int_lt x y → x <ℤ y
    missed x y e = let f : int_lt x y ≡ true = sym e in grind (arith, ints)

    kept_by : (b c : Bool) (atom : Atom) → b ≡ int_le atom.bound (extreme_sum false fs atom.terms) → c ≡ int_lt (extreme_sum true fs atom.terms) atom.bound
        → true_at values (kept atom (if b then Some true else (if c then Some false else None))) ≡ holds atom values
    kept_by true c atom e f = sym (always fs atom (reached atom.bound (extreme_sum false fs atom.terms) e) values within)
    kept_by false true atom e f = sym (never fs atom (missed (extreme_sum true fs atom.terms) atom.bound f) values within)
    kept_by false false atom e f = refl

    signed_truth : (b : Bool) (atom : Atom) (p : Proposition Atom) → true_at values p ≡ holds atom values → true_at values (signed b p) ≡ (if b then holds atom values else not (holds atom values))
    signed_truth true atom p e = e
    signed_truth false atom p e = ap not e

    test_truth : (n : Normal) → true_at values (test_of fs n) ≡ normal_holds n values
    test_truth (normals.Const b) = refl
    test_truth (normals.Literal l) = signed_truth l.positive l.atom (kept l.atom (decided_of fs l.atom)) (kept_by (int_le l.atom.bound (extreme_sum false fs l.atom.terms)) (int_lt (extreme_sum true fs l.atom.terms) l.atom.bound) l.atom refl refl)

    zero_at : (a : Linear) → IsRising a.terms → true_at values (at_least_zero fs a) ≡ int_le (pos 0) (worth a)
    zero_at a r = test_truth (normal_of a) ∙ truth_kept a values r

    less_worth : (a : Linear) → worth (less_one a) ≡ worth a -ℤ pos 1
    less_worth a = omega (arith, ints)

    lesser_at : (a : Linear) → IsRising a.terms → true_at values (at_least_zero fs (less_one a)) ≡ int_le (pos 0) (worth a -ℤ pos 1)
    lesser_at a r = zero_at (less_one a) r ∙ ap (int_le (pos 0)) (less_worth a)

    is_zero_at : (a : Linear) → IsRising a.terms → true_at values (is_zero fs a) ≡ int_eq (worth a) (pos 0)
    is_zero_at a r = ap (λ x. x && not (true_at values (at_least_zero fs (less_one a)))) (zero_at a r) ∙ ap (λ x. int_le (pos 0) (worth a) && not x) (lesser_at a r) ∙ zero_test (worth a)

    number_truth : (e : Expression) → is_truth e ≡ false → is_linear fs e ≡ true → true_at values (Not (is_zero fs (form fs e))) ≡ is_nonzero (val e)
    number_truth e t l = ap not (is_zero_at (form fs e) (form_rises fs e) ∙ ap (λ x. int_eq x (pos 0)) (form_value e t l))

    rises : (a b : Expression) → IsRising (difference (form fs a) (form fs b)).terms
    rises a b = difference_rises (form fs a) (form fs b) (form_rises fs a) (form_rises fs b)

    back_rises : (a b : Expression) → IsRising (form_by (negsuc 0) (difference (form fs a) (form fs b))).terms
    back_rises a b = terms_by_rises (negsuc 0) 0 (difference (form fs a) (form fs b)).terms (rises a b)

    back_worth : (a b : Expression) → worth (difference (form fs a) (form fs b)) ≡ val a -ℤ val b → worth (form_by (negsuc 0) (difference (form fs a) (form fs b))) ≡ neg_ℤ (val a -ℤ val b)
    back_worth a b e = negated_worth (difference (form fs a) (form fs b)) ∙ ap neg_ℤ e

    equal_truth : (a b : Expression) → worth (difference (form fs a) (form fs b)) ≡ val a -ℤ val b → true_at values (is_zero fs (difference (form fs a) (form fs b))) ≡ int_eq (val a) (val b)
    equal_truth a b e = is_zero_at (difference (form fs a) (form fs b)) (rises a b) ∙ ap (λ x. int_eq x (pos 0)) e ∙ equal_test (val a) (val b)

    pub cond_truth : (e : Expression) → is_linear fs e ≡ true → true_at values (cond fs e) ≡ is_nonzero (val e)
    cond_truth (Number n) l = number_truth (Number n) refl l
    cond_truth (Name name) l = number_truth (Name name) refl l
    cond_truth (IsDefined name) l = number_truth (IsDefined name) refl l
    cond_truth (Unary Positive e) l = number_truth (Unary Positive e) refl l
    cond_truth (Unary Negative e) l = number_truth (Unary Negative e) refl l
    cond_truth (Unary Inverse e) l = ap not (cond_truth e (and_left (is_linear fs e) true l)) ∙ sym (bit_of (not (is_nonzero (val e))))
    cond_truth (Binary Times a b) l = number_truth (Binary Times a b) refl l
    cond_truth (Binary Plus a b) l = number_truth (Binary Plus a b) refl l
    cond_truth (Binary Minus a b) l = number_truth (Binary Minus a b) refl l
    cond_truth (Binary AtLeast a b) l = zero_at (difference (form fs a) (form fs b)) (rises a b) ∙ ap (int_le (pos 0)) (compared a b l) ∙ at_least (val a) (val b) ∙ sym (bit_of (int_le (val b) (val a)))
    cond_truth (Binary Greater a b) l = lesser_at (difference (form fs a) (form fs b)) (rises a b) ∙ ap (λ x. int_le (pos 0) (x -ℤ pos 1)) (compared a b l) ∙ greater (val a) (val b) ∙ sym (bit_of (int_lt (val b) (val a)))
    cond_truth (Binary AtMost a b) l = zero_at (form_by (negsuc 0) (difference (form fs a) (form fs b))) (back_rises a b) ∙ ap (int_le (pos 0)) (back_worth a b (compared a b l)) ∙ at_most (val a) (val b) ∙ sym (bit_of (int_le (val a) (val b)))
    cond_truth (Binary Less a b) l = lesser_at (form_by (negsuc 0) (difference (form fs a) (form fs b))) (back_rises a b) ∙ ap (λ x. int_le (pos 0) (x -ℤ pos 1)) (back_worth a b (compared a b l)) ∙ less (val a) (val b) ∙ sym (bit_of (int_lt (val a) (val b)))
    cond_truth (Binary Equal a b) l = equal_truth a b (compared a b l) ∙ sym (bit_of (int_eq (val a) (val b)))
    cond_truth (Binary Differs a b) l = ap not (equal_truth a b (compared a b l)) ∙ sym (bit_of (not (int_eq (val a) (val b))))
    cond_truth (Binary Both a b) l =
        let k = and_left (is_linear fs a && is_linear fs b) true l in
        ap (λ x. x && true_at values (cond fs b)) (cond_truth a (and_left (is_linear fs a) (is_linear fs b) k)) ∙ ap (λ x. is_nonzero (val a) && x) (cond_truth b (and_right (is_linear fs a) (is_linear fs b) k))
        ∙ sym (bit_of (is_nonzero (val a) && is_nonzero (val b)))
    cond_truth (Binary Either a b) l =
        let k = and_left (is_linear fs a && is_linear fs b) true l in
        ap (λ x. x || true_at values (cond fs b)) (cond_truth a (and_left (is_linear fs a) (is_linear fs b) k)) ∙ ap (λ x. is_nonzero (val a) || x) (cond_truth b (and_right (is_linear fs a) (is_linear fs b) k))
        ∙ sym (bit_of (is_nonzero (val a) || is_nonzero (val b)))
