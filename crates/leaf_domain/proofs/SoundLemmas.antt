-- Transfer is sound: each value is in its range, and each store where an expression is as wanted is kept.
use Rattle.std.proofs.Common.{◌≡◌, ◌≢◌, ℕ, ◌<◌, ℤ, pos, negsuc, neg_ℤ, ◌+ℤ◌, ◌-ℤ◌, ◌*ℤ◌, ◌≤ℤ◌, Bool, true, false, ◌&&◌, if◌then◌else◌, List, Option, Some, None, Ok, refl, ap, sym, ◌∙◌, subst, arith, slice_set}
use Rattle.std.proofs.lemmas.Int.{ints}
use Rattle.c_tree.specs.declared.tree.Mode.{Mode}
use Rattle.c_tree.specs.declared.tree.Mode.TheVariants.{Stop}
use Rattle.c_tree.specs.declared.tree.Op.{Op}
use Rattle.c_tree.specs.declared.tree.Op.TheVariants.{Add, Sub, Mul, Div, Rem, Lt, Le, Gt, Ge, Eq, Ne, And, Or}
use Rattle.c_tree.specs.Tree.{Term, Number, Var, Neg, Not, Binary}
use Rattle.c_tree.specs.Value.{value_of, result_in, truth_of, least, greatest, IsInt, is_zero, quotient_of, remainder_of}
use Rattle.c_tree.specs.Fit.{IsTermOf}
use Rattle.leaf_domain.specs.declared.form.Form.{Form}
use Rattle.leaf_domain.specs.declared.operation.Operation.{Operation}
use Rattle.leaf_domain.specs.declared.range.Range.{Range}
use Rattle.leaf_domain.specs.declared.compare.Compare.TheVariants as compares
use Rattle.leaf_domain.specs.Ranges.{Within, IsInInt, exact, range_at, is_empty_range, whole_int, clip_of, arithmetic_range}
use Rattle.leaf_domain.specs.Operations.{Operates}
use Rattle.leaf_domain.specs.Forms.{form_of_term}
use Rattle.leaf_domain.specs.Leaves.{LeafValue, LeafMeaning, LeafLaws, IsLeafLike, nothing_of, is_nothing_of}
use Rattle.leaf_domain.specs.Transfer.{transfer, fits_in, form_where, numeric, divided, negated_range, operation_at_leaf, range_at_leaf, operation_range_of, narrowed_by, range_of_term, fits_term, operation_of_term, assumed, assigned, operation_set, form_set, valued, forgotten}
use Rattle.leaf_domain.specs.Soundness.{FormsAreForms, IsWanted, Suits, TransferAnswers}
use Rattle.leaf_domain.proofs.ArithmeticLemmas.{arithmetic_holds, not_empty}
use Rattle.leaf_domain.proofs.FormValues.{Comes, number_comes, variable_comes, neg_comes, add_comes, sub_comes, mul_comes}
use Rattle.leaf_domain.proofs.Results.{gives, gives_same, then_gives, both_give, truth_two, truth_one, truth_zero, zero_from_test, nonzero_from_test, and_left, and_right, negated_holds, clip_in_int, clip_holds, in_int_at, whole_in_int, quotient_gives, remainder_gives}
use Rattle.leaf_domain.proofs.Comparisons.{AreForms, AreOperations, GivesAt, forms_where, comes_where, where_operations, where_gives, nothing_answers}
use Rattle.leaf_domain.proofs.AtNothing.{nothing_is, range_of_nothing, assumed_of_nothing}
use Rattle.leaf_domain.proofs.SoundNodes.{Sound, both_gives, either_gives, numeric_sound, logical_sound, narrowed_holds, modular_sound, comparison_sound, both_sound, either_sound}

-- every expression fits where overflows stop
pub stop_fits : (M : LeafMeaning) (e : Term) (v : LeafValue) → fits_term M Stop e v ≡ true
stop_fits M (Number n) v = refl
stop_fits M (Var x) v = refl
stop_fits M (Neg a) v = refl
stop_fits M (Not a) v = refl
stop_fits M (Binary Add a b) v = refl
stop_fits M (Binary Sub a b) v = refl
stop_fits M (Binary Mul a b) v = refl
stop_fits M (Binary Div a b) v = refl
stop_fits M (Binary Rem a b) v = refl
stop_fits M (Binary Lt a b) v = refl
stop_fits M (Binary Le a b) v = refl
stop_fits M (Binary Gt a b) v = refl
stop_fits M (Binary Ge a b) v = refl
stop_fits M (Binary Eq a b) v = refl
stop_fits M (Binary Ne a b) v = refl
stop_fits M (Binary And a b) v = refl
stop_fits M (Binary Or a b) v = refl

fits_always : (M : LeafMeaning) (mode : Mode) (e : Term) (v : LeafValue) → mode ≡ Stop → fits_term M mode e v ≡ true
fits_always M mode e v q = subst (λ (m : Mode). fits_term M m e v ≡ true) (sym q) (stop_fits M e v)

module _ (M : LeafMeaning) (laws : LeafLaws M) (mode : Mode) (forms : FormsAreForms) where
  number_sound : (n : ℤ) → Sound M mode (Number n) (transfer M mode (Number n))
  number_sound n = numeric_sound M laws mode forms (Number n) (λ v. None) (λ v. true) (λ v. range_at n n) (λ v. range_at n n)
      (λ v h o. let i = in_int n o in record { low = i; high = i })
      (λ v s m h o k g. subst (λ (x : ℤ). Within x (range_at n n)) (gives_same g) (record { low = omega (arith, ints); high = omega (arith, ints) }))
      (λ v s m h o k f g. subst (λ (x : ℤ). Comes s (form_of_term (Number n)) x) (gives_same g) (number_comes s n))
      (λ v h o d q. cc) (λ v s m h o k g d q. cc)
    where
      in_int : (i : ℤ) → (pos 0 ≤ℤ i) × (i ≤ℤ greatest) → IsInt i
      in_int i o = record { low = omega (arith, ints, o.0); high = o.1 }

  variable_sound : (x : ℕ) → Sound M mode (Var x) (transfer M mode (Var x))
  variable_sound x = numeric_sound M laws mode forms (Var x) (λ v. None) (λ v. true) (λ v. M.bounds_of v x) (λ v. M.bounds_of v x)
      (λ v h o. laws.bounds_in_int v x h o)
      (λ v s n h o k g. subst (λ (y : ℤ). Within y (M.bounds_of v x)) (gives_same g) (laws.bounds_hold v x s h o k))
      (λ v s n h o k f g. subst (λ (y : ℤ). Comes s (form_of_term (Var x)) y) (gives_same g) (variable_comes s x))
      (λ v h o d q. cc) (λ v s n h o k g d q. cc)

  neg_sound : (a : Term) → Sound M mode a (transfer M mode a) → Sound M mode (Neg a) (transfer M mode (Neg a))
  neg_sound a d = modular_sound M laws mode forms (Neg a) (λ v. None) (transfer M mode a).fits (λ v. negated_range ((transfer M mode a).range v)) refl (fits_always M mode a)
      (λ v h o d q. cc)
      (λ v s k h o w g.
      let t = then_gives (value_of a s mode) (λ n. result_in mode (neg_ℤ n)) k g in
      record { whole = neg_ℤ t.0; within = negated_holds t.0 _ (d.range_holds v s t.0 h o w t.1); is = t.2; comes = λ f. neg_comes s a t.0 (d.form_comes v s t.0 h o w f t.1); operates = λ p q. cc })

  -- a sum, a difference or a product
  abbrev pub BothFit : Term → Term → LeafValue → Bool
  BothFit a b v = (transfer M mode a).fits v && (transfer M mode b).fits v

  abbrev pub operation_in : Op → Term → Term → LeafValue → Option Operation
  operation_in op a b v = operation_at_leaf op (form_of_term a) (form_of_term b) (transfer M mode a) (transfer M mode b) v

  abbrev pub ranges_of : Op → Term → Term → LeafValue → Range
  ranges_of op a b v = range_at_leaf M op (form_of_term a) (form_of_term b) (transfer M mode a) (transfer M mode b) v

  abbrev pub SoundTerm : Term → Type 0
  SoundTerm e = Sound M mode e (transfer M mode e)

  -- two operands that have values in a leaf
  pub record Given (a b : Term) (v : LeafValue) (s : List ℤ) (n m : ℤ) : Type 0 where
    pub valid : M.valid v
    pub over : IsTermOf v.variables a × IsTermOf v.variables b
    pub held_at : M.holds v s
    pub left_is : value_of a s mode ≡ Ok n
    pub right_is : value_of b s mode ≡ Ok m

  both_fit : (a b : Term) (v : LeafValue) → mode ≡ Stop → BothFit a b v ≡ true
  both_fit a b v q = ap (λ t. t && (transfer M mode b).fits v) (fits_always M mode a v q) ∙ fits_always M mode b v q

  -- the operation of two operands, as it counts where both fit
  pub operations_in : (op : Op) (a b : Term) (v : LeafValue) → IsTermOf v.variables a × IsTermOf v.variables b → AreOperations v.variables (operation_in op a b v)
  operations_in op a b v o = where_operations v.variables (BothFit a b v) op (form_of_term a) (form_of_term b) (λ d g. forms v.variables a d o.0 g) (λ d g. forms v.variables b d o.1 g)

  pub exact_gives : (op : Op) (a b : Term) → SoundTerm a → SoundTerm b → (v : LeafValue) (s : List ℤ) (n m j : ℤ) → Given a b v s n m → exact op n m ≡ Some j → (op ≡ Rem → n ≡ least → m ≡ negsuc 0 → ⊥) → GivesAt s (operation_in op a b v) j
  exact_gives op a b da db v s n m j p e r =
      where_gives s (BothFit a b v) op (form_of_term a) (form_of_term b) n m j
      (λ f. da.form_comes v s n p.valid p.over.0 p.held_at (and_left ((transfer M mode a).fits v) _ f) p.left_is)
      (λ f. db.form_comes v s m p.valid p.over.1 p.held_at (and_right ((transfer M mode a).fits v) _ f) p.right_is)
      (in_int_at n _ (da.range_holds v s n p.valid p.over.0 p.held_at p.left_is) (da.range_in_int v p.valid p.over.0))
      (in_int_at m _ (db.range_holds v s m p.valid p.over.1 p.held_at p.right_is) (db.range_in_int v p.valid p.over.1)) e r

  operation_within : (p : Option Operation) (v : LeafValue) (s : List ℤ) (j : ℤ) → M.valid v → AreOperations v.variables p → M.holds v s → GivesAt s p j → (q : Range) → operation_range_of M p v ≡ Some q → Within j q
  operation_within None v s j h o w g q e = cc
  operation_within (Some d) v s j h o w g q e = laws.operation_holds v d q s j h (o d refl) w (g d refl) e

  pub exact_within : (op : Op) (a b : Term) → SoundTerm a → SoundTerm b → (v : LeafValue) (s : List ℤ) (n m j : ℤ) → Given a b v s n m → exact op n m ≡ Some j → (op ≡ Rem → n ≡ least → m ≡ negsuc 0 → ⊥) → Within j (ranges_of op a b v)
  exact_within op a b da db v s n m j p e r =
      narrowed_holds M laws mode forms (operation_range_of M (operation_in op a b v) v) (arithmetic_range op ((transfer M mode a).range v) ((transfer M mode b).range v)) j
      (arithmetic_holds op _ _ n m j (da.range_holds v s n p.valid p.over.0 p.held_at p.left_is) (db.range_holds v s m p.valid p.over.1 p.held_at p.right_is) e r)
      (operation_within (operation_in op a b v) v s j p.valid (operations_in op a b v p.over) p.held_at (exact_gives op a b da db v s n m j p e r))

  add_sound : (a b : Term) → Sound M mode a (transfer M mode a) → Sound M mode b (transfer M mode b) → Sound M mode (Binary Add a b) (transfer M mode (Binary Add a b))
  add_sound a b da db = modular_sound M laws mode forms (Binary Add a b) (operation_in Add a b) (BothFit a b) (ranges_of Add a b) refl (both_fit a b)
      (λ v h o. operations_in Add a b v o)
      (λ v s k h o w g.
      let t = both_give (value_of a s mode) (value_of b s mode) (λ n m. result_in mode (n +ℤ m)) k g in
      let p : Given a b v s t.first t.second = record { valid = h; over = o; held_at = w; left_is = t.first_is; right_is = t.second_is } in
      record {
        whole = t.first +ℤ t.second;
        within = exact_within Add a b da db v s t.first t.second (t.first +ℤ t.second) p refl (λ q. cc);
        is = t.is;
        comes = λ f. add_comes s a b t.first t.second (da.form_comes v s t.first h o.0 w (and_left _ _ f) t.first_is) (db.form_comes v s t.second h o.1 w (and_right _ _ f) t.second_is);
        operates = exact_gives Add a b da db v s t.first t.second (t.first +ℤ t.second) p refl (λ q. cc);
      })

  sub_sound : (a b : Term) → Sound M mode a (transfer M mode a) → Sound M mode b (transfer M mode b) → Sound M mode (Binary Sub a b) (transfer M mode (Binary Sub a b))
  sub_sound a b da db = modular_sound M laws mode forms (Binary Sub a b) (operation_in Sub a b) (BothFit a b) (ranges_of Sub a b) refl (both_fit a b)
      (λ v h o. operations_in Sub a b v o)
      (λ v s k h o w g.
      let t = both_give (value_of a s mode) (value_of b s mode) (λ n m. result_in mode (n -ℤ m)) k g in
      let p : Given a b v s t.first t.second = record { valid = h; over = o; held_at = w; left_is = t.first_is; right_is = t.second_is } in
      record {
        whole = t.first -ℤ t.second;
        within = exact_within Sub a b da db v s t.first t.second (t.first -ℤ t.second) p refl (λ q. cc);
        is = t.is;
        comes = λ f. sub_comes s a b t.first t.second (da.form_comes v s t.first h o.0 w (and_left _ _ f) t.first_is) (db.form_comes v s t.second h o.1 w (and_right _ _ f) t.second_is);
        operates = exact_gives Sub a b da db v s t.first t.second (t.first -ℤ t.second) p refl (λ q. cc);
      })

  mul_sound : (a b : Term) → Sound M mode a (transfer M mode a) → Sound M mode b (transfer M mode b) → Sound M mode (Binary Mul a b) (transfer M mode (Binary Mul a b))
  mul_sound a b da db = modular_sound M laws mode forms (Binary Mul a b) (operation_in Mul a b) (BothFit a b) (ranges_of Mul a b) refl (both_fit a b)
      (λ v h o. operations_in Mul a b v o)
      (λ v s k h o w g.
      let t = both_give (value_of a s mode) (value_of b s mode) (λ n m. result_in mode (n *ℤ m)) k g in
      let p : Given a b v s t.first t.second = record { valid = h; over = o; held_at = w; left_is = t.first_is; right_is = t.second_is } in
      record {
        whole = t.first *ℤ t.second;
        within = exact_within Mul a b da db v s t.first t.second (t.first *ℤ t.second) p refl (λ q. cc);
        is = t.is;
        comes = λ f. mul_comes s a b t.first t.second (da.form_comes v s t.first h o.0 w (and_left _ _ f) t.first_is) (db.form_comes v s t.second h o.1 w (and_right _ _ f) t.second_is);
        operates = exact_gives Mul a b da db v s t.first t.second (t.first *ℤ t.second) p refl (λ q. cc);
      })

  -- a quotient or a remainder
  record Divided (op : Op) (a b : Term) (v : LeafValue) (s : List ℤ) (k : ℤ) : Type 0 where
    within : Within k (ranges_of op a b v)
    int : IsInt k
    gives_it : GivesAt s (operation_in op a b v) k

  quotient_sound : (op : Op) (a b : Term) → ((n : ℕ) → IsTermOf n (Binary op a b) → IsTermOf n a × IsTermOf n b)
      → ((v : LeafValue) (s : List ℤ) (k : ℤ) → M.valid v → IsTermOf v.variables (Binary op a b) → M.holds v s → value_of (Binary op a b) s mode ≡ Ok k → Divided op a b v s k)
      → form_of_term (Binary op a b) ≡ None
      → Sound M mode (Binary op a b) (divided M mode (operation_in op a b) (ranges_of op a b))
  quotient_sound op a b over holds none =
      subst (λ (f : Option Form). Sound M mode (Binary op a b) (numeric M None f (operation_in op a b) (λ v. fits_in mode false) (ranges_of op a b) (λ v. clip_of (ranges_of op a b v)))) none
      (numeric_sound M laws mode forms (Binary op a b) (operation_in op a b) (λ v. fits_in mode false) (ranges_of op a b) (λ v. clip_of (ranges_of op a b v))
      (λ v h o. clip_in_int (ranges_of op a b v))
      (λ v s k h o w g. let p = holds v s k h o w g in clip_holds k (ranges_of op a b v) p.within p.int)
      (λ v s k h o w f g d q. absurd (differ d (sym none ∙ q)))
      (λ v h o. operations_in op a b v (over v.variables o))
      (λ v s k h o w g. (holds v s k h o w g).gives_it))
    where
      differ : (d : Form) → None ≡ Some d → ⊥
      differ d q = cc

  div_sound : (a b : Term) → Sound M mode a (transfer M mode a) → Sound M mode b (transfer M mode b) → Sound M mode (Binary Div a b) (transfer M mode (Binary Div a b))
  div_sound a b da db = quotient_sound Div a b (λ n o. o) (λ v s k h o w g.
      let t = both_give (value_of a s mode) (value_of b s mode) (λ n m. quotient_of n m) k g in
      let p : Given a b v s t.first t.second = record { valid = h; over = o; held_at = w; left_is = t.first_is; right_is = t.second_is } in
      let u = quotient_gives t.first t.second k t.is in
      record {
        within = exact_within Div a b da db v s t.first t.second k p u.exact_is u.rem_is;
        int = u.int;
        gives_it = exact_gives Div a b da db v s t.first t.second k p u.exact_is u.rem_is;
      }) refl

  rem_sound : (a b : Term) → Sound M mode a (transfer M mode a) → Sound M mode b (transfer M mode b) → Sound M mode (Binary Rem a b) (transfer M mode (Binary Rem a b))
  rem_sound a b da db = quotient_sound Rem a b (λ n o. o) (λ v s k h o w g.
      let t = both_give (value_of a s mode) (value_of b s mode) (λ n m. remainder_of n m) k g in
      let p : Given a b v s t.first t.second = record { valid = h; over = o; held_at = w; left_is = t.first_is; right_is = t.second_is } in
      let u = remainder_gives t.first t.second k (in_int_at t.first _ (da.range_holds v s t.first h o.0 w t.first_is) (da.range_in_int v h o.0)) t.is in
      record {
        within = exact_within Rem a b da db v s t.first t.second k p u.exact_is u.rem_is;
        int = u.int;
        gives_it = exact_gives Rem a b da db v s t.first t.second k p u.exact_is u.rem_is;
      }) refl

  not_sound : (a : Term) → Sound M mode a (transfer M mode a) → Sound M mode (Not a) (transfer M mode (Not a))
  not_sound a d = logical_sound M laws mode forms (Not a) (transfer M mode a).when_false (transfer M mode a).when_true refl
      (λ s k g. let t = then_gives (value_of a s mode) (λ n. gives (truth_of (is_zero n))) k g in truth_two (is_zero t.0) k t.2)
      d.false_answers d.true_answers
      (λ v s h o w g. let t = then_gives (value_of a s mode) (λ n. gives (truth_of (is_zero n))) (pos 1) g in
      d.false_holds v s h o w (t.1 ∙ ap gives (zero_from_test t.0 (truth_one _ t.2))))
      (λ v s h o w g. let t = then_gives (value_of a s mode) (λ n. gives (truth_of (is_zero n))) (pos 0) g in
      d.true_holds v s t.0 h o w t.1 (nonzero_from_test t.0 (truth_zero _ t.2)))

  pub transfer_sound : (e : Term) → Sound M mode e (transfer M mode e)
  transfer_sound (Number n) = number_sound n
  transfer_sound (Var x) = variable_sound x
  transfer_sound (Neg a) = neg_sound a (transfer_sound a)
  transfer_sound (Not a) = not_sound a (transfer_sound a)
  transfer_sound (Binary Add a b) = add_sound a b (transfer_sound a) (transfer_sound b)
  transfer_sound (Binary Sub a b) = sub_sound a b (transfer_sound a) (transfer_sound b)
  transfer_sound (Binary Mul a b) = mul_sound a b (transfer_sound a) (transfer_sound b)
  transfer_sound (Binary Div a b) = div_sound a b (transfer_sound a) (transfer_sound b)
  transfer_sound (Binary Rem a b) = rem_sound a b (transfer_sound a) (transfer_sound b)
  transfer_sound (Binary Lt a b) = comparison_sound M laws mode forms (Binary Lt a b) a b compares.Lt (transfer M mode a) (transfer M mode b) refl (λ n o. o) (λ s. refl) (transfer_sound a) (transfer_sound b)
  transfer_sound (Binary Le a b) = comparison_sound M laws mode forms (Binary Le a b) a b compares.Le (transfer M mode a) (transfer M mode b) refl (λ n o. o) (λ s. refl) (transfer_sound a) (transfer_sound b)
  transfer_sound (Binary Gt a b) = comparison_sound M laws mode forms (Binary Gt a b) a b compares.Gt (transfer M mode a) (transfer M mode b) refl (λ n o. o) (λ s. refl) (transfer_sound a) (transfer_sound b)
  transfer_sound (Binary Ge a b) = comparison_sound M laws mode forms (Binary Ge a b) a b compares.Ge (transfer M mode a) (transfer M mode b) refl (λ n o. o) (λ s. refl) (transfer_sound a) (transfer_sound b)
  transfer_sound (Binary Eq a b) = comparison_sound M laws mode forms (Binary Eq a b) a b compares.Eq (transfer M mode a) (transfer M mode b) refl (λ n o. o) (λ s. refl) (transfer_sound a) (transfer_sound b)
  transfer_sound (Binary Ne a b) = comparison_sound M laws mode forms (Binary Ne a b) a b compares.Ne (transfer M mode a) (transfer M mode b) refl (λ n o. o) (λ s. refl) (transfer_sound a) (transfer_sound b)
  transfer_sound (Binary And a b) = both_sound M laws mode forms (Binary And a b) a b (transfer M mode a) (transfer M mode b) refl (λ n o. o) (transfer_sound a) (transfer_sound b) (λ s k g. both_gives (value_of a s mode) (value_of b s mode) k g)
  transfer_sound (Binary Or a b) = either_sound M laws mode forms (Binary Or a b) a b (transfer M mode a) (transfer M mode b) refl (λ n o. o) (transfer_sound a) (transfer_sound b) (λ s k g. either_gives (value_of a s mode) (value_of b s mode) k g)

  -- ---- the transfer functions

  pub range_within : (e : Term) (v : LeafValue) (s : List ℤ) (n : ℤ) → Suits M e v → M.holds v s → value_of e s mode ≡ Ok n → Within n (range_of_term M mode e v)
  range_within e v s n u w g = (transfer_sound e).range_holds v s n u.valid u.term w g

  pub assumed_holds : (e : Term) (want : Bool) (v : LeafValue) (s : List ℤ) (n : ℤ) → Suits M e v → M.holds v s → value_of e s mode ≡ Ok n → IsWanted want n → M.holds (assumed M mode e want v) s
  assumed_holds e true v s n u w g z = (transfer_sound e).true_holds v s n u.valid u.term w g z
  assumed_holds e false v s n u w g z = (transfer_sound e).false_holds v s u.valid u.term w (g ∙ ap gives z)

  pub assumed_answers : (e : Term) (want : Bool) (v : LeafValue) → Suits M e v → IsLeafLike M v (assumed M mode e want v)
  assumed_answers e true v u = (transfer_sound e).true_answers v u.valid u.term
  assumed_answers e false v u = (transfer_sound e).false_answers v u.valid u.term

  operation_set_answers : (x : ℕ) (p : Option Operation) (r : Range) (v : LeafValue) → x < v.variables → M.valid v → AreOperations v.variables p → IsInInt r → IsLeafLike M v (operation_set M x p r v)
  operation_set_answers x None r v l h k i = laws.set_answers v x r h l i
  operation_set_answers x (Some d) r v l h k i = laws.set_operation_answers v x d r h l (k d refl) i

  form_set_answers : (x : ℕ) (f : Option Form) (p : Option Operation) (r : Range) (v : LeafValue) → x < v.variables → M.valid v → AreForms v.variables f → AreOperations v.variables p → IsInInt r → IsLeafLike M v (form_set M x f p r v)
  form_set_answers x None p r v l h k o i = operation_set_answers x p r v l h o i
  form_set_answers x (Some d) p r v l h k o i = laws.set_form_answers v x d r h l (k d refl) i

  operation_set_holds : (x : ℕ) (p : Option Operation) (r : Range) (v : LeafValue) (s : List ℤ) (n : ℤ) → x < v.variables → M.valid v → AreOperations v.variables p → IsInInt r → M.holds v s → GivesAt s p n → Within n r → M.holds (operation_set M x p r v) (slice_set s x n)
  operation_set_holds x None r v s n l h k i w c q = laws.set_holds v x r s n h l i w q
  operation_set_holds x (Some d) r v s n l h k i w c q = laws.set_operation_holds v x d r s n h l (k d refl) i w (c d refl) q

  form_set_holds : (x : ℕ) (f : Option Form) (p : Option Operation) (r : Range) (v : LeafValue) (s : List ℤ) (n : ℤ) → x < v.variables → M.valid v → AreForms v.variables f → AreOperations v.variables p → IsInInt r → M.holds v s → Comes s f n → GivesAt s p n → Within n r → M.holds (form_set M x f p r v) (slice_set s x n)
  form_set_holds x None p r v s n l h k o i w c g q = operation_set_holds x p r v s n l h o i w g q
  form_set_holds x (Some d) p r v s n l h k o i w c g q =
      subst (λ (m : ℤ). M.holds (M.set_form v x d r) (slice_set s x m)) (c d refl) (laws.set_form_holds v x d r s h l (k d refl) i w (subst (λ (m : ℤ). Within m r) (sym (c d refl)) q))

  set_forms : (e : Term) (v : LeafValue) → Suits M e v → AreForms v.variables (form_where (fits_term M mode e v) (form_of_term e))
  set_forms e v u = forms_where v.variables (fits_term M mode e v) (form_of_term e) (λ d g. forms v.variables e d u.term g)

  assigned_answers : (x : ℕ) (e : Term) (v : LeafValue) → x < v.variables → Suits M e v → IsLeafLike M v (assigned M mode x e v)
  assigned_answers x e v l u = by_test (is_empty_range (range_of_term M mode e v))
    where
      by_test : (t : Bool) → IsLeafLike M v (if t then nothing_of v.variables else form_set M x (form_where (fits_term M mode e v) (form_of_term e)) (operation_of_term M mode e v) (range_of_term M mode e v) v)
      by_test true = nothing_answers M laws v u.valid
      by_test false = form_set_answers x _ (operation_of_term M mode e v) (range_of_term M mode e v) v l u.valid (set_forms e v u) ((transfer_sound e).operations v u.valid u.term) ((transfer_sound e).range_in_int v u.valid u.term)

  pub assigned_holds : (x : ℕ) (e : Term) (v : LeafValue) (s : List ℤ) (n : ℤ) → x < v.variables → Suits M e v → M.holds v s → value_of e s mode ≡ Ok n → M.holds (assigned M mode x e v) (slice_set s x n)
  assigned_holds x e v s n l u w g =
      let p = range_within e v s n u w g in
      rw (not_empty n (range_of_term M mode e v) p) (form_set_holds x _ (operation_of_term M mode e v) (range_of_term M mode e v) v s n l u.valid (set_forms e v u) ((transfer_sound e).operations v u.valid u.term) ((transfer_sound e).range_in_int v u.valid u.term) w
      (comes_where s (fits_term M mode e v) (form_of_term e) n (λ f. (transfer_sound e).form_comes v s n u.valid u.term w f g)) ((transfer_sound e).operation_gives v s n u.valid u.term w g) p)

  valued_answers : (e : Term) (v : LeafValue) → Suits M e v → IsLeafLike M v (valued M mode e v)
  valued_answers e v u = by_test (is_empty_range (range_of_term M mode e v))
    where
      by_test : (t : Bool) → IsLeafLike M v (if t then nothing_of v.variables else v)
      by_test true = nothing_answers M laws v u.valid
      by_test false = record { valid = u.valid; same = refl }

  pub valued_holds : (e : Term) (v : LeafValue) (s : List ℤ) (n : ℤ) → Suits M e v → M.holds v s → value_of e s mode ≡ Ok n → M.holds (valued M mode e v) s
  valued_holds e v s n u w g = rw (not_empty n (range_of_term M mode e v) (range_within e v s n u w g)) w

  pub forgotten_holds : (x : ℕ) (v : LeafValue) (s : List ℤ) (n : ℤ) → x < v.variables → M.valid v → M.holds v s → IsInt n → M.holds (forgotten M x v) (slice_set s x n)
  forgotten_holds x v s n l h w i = laws.set_holds v x whole_int s n h l whole_in_int w (record { low = i.low; high = i.high })

  -- ---- Nothing

  forgotten_of_nothing : (x : ℕ) (v : LeafValue) → is_nothing_of v ≡ true → is_nothing_of (forgotten M x v) ≡ true
  forgotten_of_nothing x v h = ap (λ w. is_nothing_of (M.set_range w x whole_int)) (nothing_is v.variables v.content h) ∙ ap is_nothing_of (laws.set_nothing v.variables x whole_int)

  assigned_of_nothing : (x : ℕ) (e : Term) (v : LeafValue) → is_nothing_of v ≡ true → is_nothing_of (assigned M mode x e v) ≡ true
  assigned_of_nothing x e v h = ap (λ r. is_nothing_of (if is_empty_range r then nothing_of v.variables else form_set M x (form_where (fits_term M mode e v) (form_of_term e)) (operation_of_term M mode e v) r v)) (range_of_nothing M mode e v h)

  valued_of_nothing : (e : Term) (v : LeafValue) → is_nothing_of v ≡ true → is_nothing_of (valued M mode e v) ≡ true
  valued_of_nothing e v h = ap (λ r. is_nothing_of (if is_empty_range r then nothing_of v.variables else v)) (range_of_nothing M mode e v h)

  pub transfer_answers : TransferAnswers M mode
  transfer_answers = record {
    range_in_int = λ e v u. (transfer_sound e).range_in_int v u.valid u.term;
    assumed_answers = assumed_answers;
    assigned_answers = assigned_answers;
    valued_answers = valued_answers;
    forgotten_answers = λ x v l h. laws.set_answers v x whole_int h l whole_in_int;
    range_of_nothing = range_of_nothing M mode;
    assumed_of_nothing = assumed_of_nothing M mode;
    assigned_of_nothing = assigned_of_nothing;
    valued_of_nothing = valued_of_nothing;
    forgotten_of_nothing = forgotten_of_nothing;
  }
