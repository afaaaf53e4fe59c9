-- Each node of an expression: its range has its values, and each store where it is as wanted is kept.
use Rattle.std.proofs.Common.{◌≡◌, ◌≢◌, ◌⊎◌, inl, inr, ℕ, ℤ, pos, ◌-ℤ◌, ◌≤ℤ◌, Bool, true, false, not, ◌&&◌, if◌then◌else◌, List, Option, Some, None, Result, Ok, Err, refl, ap, sym, ◌∙◌, subst, arith}
use Rattle.std.proofs.lemmas.Int.{ints}
use Rattle.c_tree.specs.declared.tree.Kind.{Kind}
use Rattle.c_tree.specs.declared.tree.Mode.{Mode}
use Rattle.c_tree.specs.declared.tree.Mode.TheVariants.{Stop, Wrap}
use Rattle.c_tree.specs.declared.tree.Op.TheVariants.{Sub}
use Rattle.c_tree.specs.Tree.{Term, Number, Binary}
use Rattle.c_tree.specs.Value.{value_of, result_in, truth_of, greatest, is_zero, ◌>>=◌}
use Rattle.c_tree.specs.Fit.{IsTermOf}
use Rattle.leaf_domain.specs.declared.form.Form.{Form}
use Rattle.leaf_domain.specs.declared.operation.Operation.{Operation}
use Rattle.leaf_domain.specs.declared.range.Range.{Range}
use Rattle.leaf_domain.specs.declared.compare.Compare.{Compare}
use Rattle.leaf_domain.specs.declared.compare.Compare.TheVariants as compares
use Rattle.leaf_domain.specs.Ranges.{Within, IsInInt, empty_range}
use Rattle.leaf_domain.specs.Compares.{holds_between, negation_of}
use Rattle.leaf_domain.specs.Forms.{form_of_term}
use Rattle.leaf_domain.specs.Operations.{operation_if}
use Rattle.leaf_domain.specs.Leaves.{LeafValue, LeafMeaning, LeafLaws, Alike, IsLeafLike, is_nothing_of}
use Rattle.leaf_domain.specs.Transfer.{Transfer, where_some, range_where_some, range_of_sides, fits_in, logical, variable_of, form_where, operands_compared, comparison, numeric, zero_range, form_less_zero, is_inside, results_in, narrowed_by, raw_of_sum, modular, both, either}
use Rattle.leaf_domain.specs.Soundness.{FormsAreForms}
use Rattle.leaf_domain.proofs.CutLemmas.{negation_holds}
use Rattle.leaf_domain.proofs.FormValues.{Comes, sub_comes, number_comes}
use Rattle.leaf_domain.proofs.Results.{gives, gives_same, both_give, in_range_gives, wrapped_int, truth_two, truth_one, truth_zero, zero_from_test, nonzero_from_test, test_of_nonzero, not_true, not_false, and_left, and_right, meet_holds, empty_in_int, zero_in_int, truth_in_int, truth_has_one, truth_has_zero, results_in_int, results_hold, int_inside}
use Rattle.leaf_domain.proofs.Answered.{answers_then}
use Rattle.leaf_domain.proofs.Comparisons.{AreForms, AreOperations, GivesAt, forms_where, comes_where, if_operations, if_gives, held, term_over, where_answers, where_holds, Operands, Values, operands_answers, operands_hold}

-- what is shown of each node
pub record Sound (M : LeafMeaning) (mode : Mode) (e : Term) (T : Transfer) : Type 0 where
  pub range_in_int : (v : LeafValue) → M.valid v → IsTermOf v.variables e → IsInInt (T.range v)
  pub true_answers : (v : LeafValue) → M.valid v → IsTermOf v.variables e → IsLeafLike M v (T.when_true v)
  pub false_answers : (v : LeafValue) → M.valid v → IsTermOf v.variables e → IsLeafLike M v (T.when_false v)
  pub range_holds : (v : LeafValue) (s : List ℤ) (n : ℤ) → M.valid v → IsTermOf v.variables e → M.holds v s → value_of e s mode ≡ Ok n → Within n (T.range v)
  pub true_holds : (v : LeafValue) (s : List ℤ) (n : ℤ) → M.valid v → IsTermOf v.variables e → M.holds v s → value_of e s mode ≡ Ok n → n ≢ pos 0 → M.holds (T.when_true v) s
  pub false_holds : (v : LeafValue) (s : List ℤ) → M.valid v → IsTermOf v.variables e → M.holds v s → value_of e s mode ≡ Ok (pos 0) → M.holds (T.when_false v) s
  pub form_comes : (v : LeafValue) (s : List ℤ) (n : ℤ) → M.valid v → IsTermOf v.variables e → M.holds v s → T.fits v ≡ true → value_of e s mode ≡ Ok n → Comes s (form_of_term e) n
  pub operations : (v : LeafValue) → M.valid v → IsTermOf v.variables e → AreOperations v.variables (T.operation v)
  pub operation_gives : (v : LeafValue) (s : List ℤ) (n : ℤ) → M.valid v → IsTermOf v.variables e → M.holds v s → value_of e s mode ≡ Ok n → GivesAt s (T.operation v) n

abbrev pub zero_term : Term
zero_term = Number (pos 0)

zero_over : (pos 0 ≤ℤ pos 0) × (pos 0 ≤ℤ greatest)
zero_over = (omega (arith, ints), omega (arith, ints))

zero_within : Within (pos 0) zero_range
zero_within = record { low = omega (arith, ints); high = omega (arith, ints) }

not_zero : (n : ℤ) → n ≢ pos 0 → holds_between compares.Ne n (pos 0) ≡ true
not_zero n z = ap not (test_of_nonzero n z)

range_where_in_int : (v : LeafValue) (r : Range) → IsInInt r → IsInInt (range_where_some v r)
range_where_in_int v r h = by_test (is_nothing_of v)
  where
    by_test : (t : Bool) → IsInInt (if t then empty_range else r)
    by_test true = empty_in_int
    by_test false = h

-- what `&&` says of its operands
pub data BothTaken (x y : Result ℤ Kind) (k : ℤ) : Type 0 where
  left_zero : x ≡ Ok (pos 0) → k ≡ pos 0 → BothTaken x y k
  both_taken : (n m : ℤ) → x ≡ Ok n → n ≢ pos 0 → y ≡ Ok m → gives (truth_of (not (is_zero m))) ≡ Ok k → BothTaken x y k

pub both_gives : (x y : Result ℤ Kind) (k : ℤ) → (x >>= λ n. if is_zero n then Ok (pos 0) else y >>= λ m. Ok (truth_of (not (is_zero m)))) ≡ Ok k → BothTaken x y k
both_gives (Err i) y k e = cc
both_gives (Ok n) y k e = by_test (is_zero n) refl y e
  where
    by_test : (t : Bool) → is_zero n ≡ t → (z : Result ℤ Kind) → (if t then gives (pos 0) else z >>= λ m. Ok (truth_of (not (is_zero m)))) ≡ Ok k → BothTaken (Ok n) z k
    by_test true f z g = left_zero (ap gives (zero_from_test n f)) (sym (gives_same g))
    by_test false f (Ok m) g = both_taken n m refl (nonzero_from_test n f) refl g
    by_test false f (Err i) g = cc

-- what `||` says of its operands
pub data EitherTaken (x y : Result ℤ Kind) (k : ℤ) : Type 0 where
  left_nonzero : (n : ℤ) → x ≡ Ok n → n ≢ pos 0 → k ≡ pos 1 → EitherTaken x y k
  right_taken : (m : ℤ) → x ≡ Ok (pos 0) → y ≡ Ok m → gives (truth_of (not (is_zero m))) ≡ Ok k → EitherTaken x y k

pub either_gives : (x y : Result ℤ Kind) (k : ℤ) → (x >>= λ n. if is_zero n then y >>= (λ m. Ok (truth_of (not (is_zero m)))) else Ok (pos 1)) ≡ Ok k → EitherTaken x y k
either_gives (Err i) y k e = cc
either_gives (Ok n) y k e = by_test (is_zero n) refl y e
  where
    by_test : (t : Bool) → is_zero n ≡ t → (z : Result ℤ Kind) → (if t then z >>= (λ m. Ok (truth_of (not (is_zero m)))) else gives (pos 1)) ≡ Ok k → EitherTaken (Ok n) z k
    by_test false f z g = left_nonzero n refl (nonzero_from_test n f) (sym (gives_same g))
    by_test true f (Ok m) g = right_taken m (ap gives (zero_from_test n f)) refl g
    by_test true f (Err i) g = cc

-- the results of a negation, a sum, a difference or a product of these values
pub record Results (M : LeafMeaning) (mode : Mode) (e : Term) (operation : LeafValue → Option Operation) (operands_fit : LeafValue → Bool) (plain : LeafValue → Range) (v : LeafValue) (s : List ℤ) (k : ℤ) : Type 0 where
  pub whole : ℤ
  pub within : Within whole (plain v)
  pub is : result_in mode whole ≡ Ok k
  pub comes : operands_fit v ≡ true → Comes s (form_of_term e) whole
  pub operates : GivesAt s (operation v) whole

module _ (M : LeafMeaning) (laws : LeafLaws M) (mode : Mode) (forms : FormsAreForms) where
  -- ---- a node that is compared with 0

  less_zero_forms : (e : Term) (n : ℕ) → IsTermOf n e → AreForms n (form_less_zero (form_of_term e))
  less_zero_forms e n o d g = forms n (Binary Sub e zero_term) d (o, zero_over) g

  less_zero_comes : (e : Term) (s : List ℤ) (n : ℤ) → Comes s (form_of_term e) n → Comes s (form_less_zero (form_of_term e)) (n -ℤ pos 0)
  less_zero_comes e s n h d g = sub_comes s e zero_term n (pos 0) h (number_comes s (pos 0)) d g

  pub numeric_sound : (e : Term) (operation : LeafValue → Option Operation) (fits : LeafValue → Bool) (raw range : LeafValue → Range)
      → ((v : LeafValue) → M.valid v → IsTermOf v.variables e → IsInInt (range v))
      → ((v : LeafValue) (s : List ℤ) (n : ℤ) → M.valid v → IsTermOf v.variables e → M.holds v s → value_of e s mode ≡ Ok n → Within n (range v))
      → ((v : LeafValue) (s : List ℤ) (n : ℤ) → M.valid v → IsTermOf v.variables e → M.holds v s → fits v ≡ true → value_of e s mode ≡ Ok n → Comes s (form_of_term e) n)
      → ((v : LeafValue) → M.valid v → IsTermOf v.variables e → AreOperations v.variables (operation v))
      → ((v : LeafValue) (s : List ℤ) (n : ℤ) → M.valid v → IsTermOf v.variables e → M.holds v s → value_of e s mode ≡ Ok n → GivesAt s (operation v) n)
      → Sound M mode e (numeric M (variable_of e) (form_of_term e) operation fits raw range)
  numeric_sound e operation fits raw range int holds comes operations operates = record {
    range_in_int = λ v h o. range_where_in_int v (range v) (int v h o);
    true_answers = λ v h o. where_answers M laws v _ h (side_answers compares.Ne v h o);
    false_answers = λ v h o. where_answers M laws v _ h (side_answers compares.Eq v h o);
    range_holds = λ v s n h o k g. rw (held M laws v s k) (holds v s n h o k g);
    true_holds = λ v s n h o k g z. where_holds M laws v _ s k (side_holds compares.Ne v s n h o k g (not_zero n z));
    false_holds = λ v s h o k g. where_holds M laws v _ s k (side_holds compares.Eq v s (pos 0) h o k g refl);
    form_comes = comes;
    operations = operations;
    operation_gives = operates;
  }
    where
      operands : (v : LeafValue) → M.valid v → IsTermOf v.variables e → Operands M laws mode e zero_term (range v) zero_range (form_where (fits v) (form_less_zero (form_of_term e))) (operation v) None v
      operands v h o = record {
        valid = h;
        left_over = o;
        right_over = zero_over;
        left_int = int v h o;
        right_int = zero_in_int;
        forms = forms_where v.variables (fits v) (form_less_zero (form_of_term e)) (less_zero_forms e v.variables o);
        left_operations = operations v h o;
        right_operations = λ d q. cc;
      }

      side_answers : (op : Compare) (v : LeafValue) → M.valid v → IsTermOf v.variables e → IsLeafLike M v (operands_compared M op (variable_of e) None (range v) zero_range (form_where (fits v) (form_less_zero (form_of_term e))) (operation v) None v)
      side_answers op v h o = operands_answers M laws mode op e zero_term (range v) zero_range (form_where (fits v) (form_less_zero (form_of_term e))) (operation v) None v (operands v h o)

      side_holds : (op : Compare) (v : LeafValue) (s : List ℤ) (n : ℤ) → M.valid v → IsTermOf v.variables e → M.holds v s → value_of e s mode ≡ Ok n → holds_between op n (pos 0) ≡ true
          → M.holds (operands_compared M op (variable_of e) None (range v) zero_range (form_where (fits v) (form_less_zero (form_of_term e))) (operation v) None v) s
      side_holds op v s n h o k g t =
          operands_hold M laws mode op e zero_term (range v) zero_range (form_where (fits v) (form_less_zero (form_of_term e))) (operation v) None v s n (pos 0) (operands v h o)
          (record {
            left_is = g;
            right_is = refl;
            left_within = holds v s n h o k g;
            right_within = zero_within;
            comes = comes_where s (fits v) (form_less_zero (form_of_term e)) (n -ℤ pos 0) (λ f. less_zero_comes e s n (comes v s n h o k f g));
            left_gives = operates v s n h o k g;
            right_gives = λ d q. cc;
          }) k t

  -- ---- a node that is a truth value

  pub logical_sound : (e : Term) (t f : LeafValue → LeafValue)
      → form_of_term e ≡ None
      → ((s : List ℤ) (n : ℤ) → value_of e s mode ≡ Ok n → (n ≡ pos 1) ⊎ (n ≡ pos 0))
      → ((v : LeafValue) → M.valid v → IsTermOf v.variables e → IsLeafLike M v (t v))
      → ((v : LeafValue) → M.valid v → IsTermOf v.variables e → IsLeafLike M v (f v))
      → ((v : LeafValue) (s : List ℤ) → M.valid v → IsTermOf v.variables e → M.holds v s → value_of e s mode ≡ Ok (pos 1) → M.holds (t v) s)
      → ((v : LeafValue) (s : List ℤ) → M.valid v → IsTermOf v.variables e → M.holds v s → value_of e s mode ≡ Ok (pos 0) → M.holds (f v) s)
      → Sound M mode e (logical mode t f)
  logical_sound e t f none two ta fa th fh = record {
    range_in_int = λ v h o. truth_in_int _ _;
    true_answers = λ v h o. where_answers M laws v (t v) h (ta v h o);
    false_answers = λ v h o. where_answers M laws v (f v) h (fa v h o);
    range_holds = λ v s n h o k g. by_value v s n h o k g (two s n g);
    true_holds = λ v s n h o k g z. where_holds M laws v (t v) s k (true_at v s n h o k g z (two s n g));
    false_holds = λ v s h o k g. where_holds M laws v (f v) s k (fh v s h o k g);
    form_comes = λ v s n h o k fit g d q. absurd (differ d (sym none ∙ q));
    operations = λ v h o d q. cc;
    operation_gives = λ v s n h o k g d q. cc;
  }
    where
      differ : (d : Form) → None ≡ Some d → ⊥
      differ d q = cc

      true_at : (v : LeafValue) (s : List ℤ) (n : ℤ) → M.valid v → IsTermOf v.variables e → M.holds v s → value_of e s mode ≡ Ok n → n ≢ pos 0 → (n ≡ pos 1) ⊎ (n ≡ pos 0) → M.holds (t v) s
      true_at v s n h o k g z (inl p) = th v s h o k (g ∙ ap gives p)
      true_at v s n h o k g z (inr p) = absurd (z p)

      by_value : (v : LeafValue) (s : List ℤ) (n : ℤ) → M.valid v → IsTermOf v.variables e → M.holds v s → value_of e s mode ≡ Ok n → (n ≡ pos 1) ⊎ (n ≡ pos 0) → Within n (range_of_sides (where_some v (t v)) (where_some v (f v)))
      by_value v s n h o k g (inl p) =
          rw (p, held M laws (where_some v (t v)) s (where_holds M laws v (t v) s k (th v s h o k (g ∙ ap gives p)))) (truth_has_one _)
      by_value v s n h o k g (inr p) =
          rw (p, held M laws (where_some v (f v)) s (where_holds M laws v (f v) s k (fh v s h o k (g ∙ ap gives p)))) (truth_has_zero _)

  -- ---- a negation, a sum, a difference or a product

  pub narrowed_holds : (q : Option Range) (r : Range) (j : ℤ) → Within j r → ((p : Range) → q ≡ Some p → Within j p) → Within j (narrowed_by q r)
  narrowed_holds None r j i h = i
  narrowed_holds (Some p) r j i h = meet_holds j r p i (h p refl)

  pub raw_holds : (f : Option Form) (t : Bool) (r : Range) (v : LeafValue) (s : List ℤ) (j : ℤ) → M.valid v → AreForms v.variables f → M.holds v s → (t ≡ true → Comes s f j) → Within j r → Within j (raw_of_sum M f t r v)
  raw_holds f false r v s j h k w c i = i
  raw_holds None true r v s j h k w c i = i
  raw_holds (Some d) true r v s j h k w c i =
      narrowed_holds (M.form_range v d) r j i (λ p e. subst (λ (x : ℤ). Within x p) (c refl d refl) (laws.form_holds v d p s h (k d refl) w e))

  abbrev raw_at : Term → (LeafValue → Bool) → (LeafValue → Range) → LeafValue → Range
  raw_at e operands_fit plain v = raw_of_sum M (form_of_term e) (operands_fit v) (plain v) v

  abbrev fits_at : Term → (LeafValue → Bool) → (LeafValue → Range) → LeafValue → Bool
  fits_at e operands_fit plain v = fits_in mode (operands_fit v && is_inside (raw_at e operands_fit plain v))

  pub modular_sound : (e : Term) (operation : LeafValue → Option Operation) (operands_fit : LeafValue → Bool) (plain : LeafValue → Range) → variable_of e ≡ None
      → ((v : LeafValue) → mode ≡ Stop → operands_fit v ≡ true)
      → ((v : LeafValue) → M.valid v → IsTermOf v.variables e → AreOperations v.variables (operation v))
      → ((v : LeafValue) (s : List ℤ) (k : ℤ) → M.valid v → IsTermOf v.variables e → M.holds v s → value_of e s mode ≡ Ok k → Results M mode e operation operands_fit plain v s k)
      → Sound M mode e (modular M mode (form_of_term e) operation operands_fit plain)
  modular_sound e operation operands_fit plain no_variable always operations results =
      subst (λ (x : Option ℕ). Sound M mode e (numeric M x (form_of_term e) (λ v. operation_if (fits_at e operands_fit plain v) (operation v)) (λ v. fits_at e operands_fit plain v) (λ v. raw_at e operands_fit plain v) (λ v. results_in mode (raw_at e operands_fit plain v)))) no_variable
      (numeric_sound e (λ v. operation_if (fits_at e operands_fit plain v) (operation v)) (λ v. fits_at e operands_fit plain v) (λ v. raw_at e operands_fit plain v) (λ v. results_in mode (raw_at e operands_fit plain v)) (λ v h o. results_in_int mode (raw_at e operands_fit plain v)) range_holds comes
      (λ v h o. if_operations v.variables (fits_at e operands_fit plain v) (operation v) (operations v h o)) operates)
    where
      whole_holds : (v : LeafValue) (s : List ℤ) (k : ℤ) → M.valid v → IsTermOf v.variables e → M.holds v s → (p : Results M mode e operation operands_fit plain v s k) → Within p.whole (raw_at e operands_fit plain v)
      whole_holds v s k h o w p = raw_holds (form_of_term e) (operands_fit v) (plain v) v s p.whole h (λ d g. forms v.variables e d o g) w p.comes p.within

      range_holds : (v : LeafValue) (s : List ℤ) (k : ℤ) → M.valid v → IsTermOf v.variables e → M.holds v s → value_of e s mode ≡ Ok k → Within k (results_in mode (raw_at e operands_fit plain v))
      range_holds v s k h o w g = let p = results v s k h o w g in results_hold mode p.whole k (raw_at e operands_fit plain v) (whole_holds v s k h o w p) p.is

      by_mode : (m : Mode) (v : LeafValue) (s : List ℤ) (j k : ℤ) → m ≡ mode → Within j (raw_at e operands_fit plain v) → (operands_fit v ≡ true → Comes s (form_of_term e) j) → fits_in m (operands_fit v && is_inside (raw_at e operands_fit plain v)) ≡ true → result_in m j ≡ Ok k → Comes s (form_of_term e) k
      by_mode Stop v s j k q i c f g = subst (λ (x : ℤ). Comes s (form_of_term e) x) (in_range_gives j k g).0 (c (always v (sym q)))
      by_mode Wrap v s j k q i c f g =
          let n = int_inside j (raw_at e operands_fit plain v) i (and_right (operands_fit v) (is_inside (raw_at e operands_fit plain v)) f) in
          subst (λ (x : ℤ). Comes s (form_of_term e) x) (sym (wrapped_int j n) ∙ gives_same g) (c (and_left (operands_fit v) (is_inside (raw_at e operands_fit plain v)) f))

      comes : (v : LeafValue) (s : List ℤ) (k : ℤ) → M.valid v → IsTermOf v.variables e → M.holds v s → fits_in mode (operands_fit v && is_inside (raw_at e operands_fit plain v)) ≡ true → value_of e s mode ≡ Ok k → Comes s (form_of_term e) k
      comes v s k h o w f g = let p = results v s k h o w g in by_mode mode v s p.whole k refl (whole_holds v s k h o w p) p.comes f p.is

      -- what fits is not changed by the mode
      same_whole : (m : Mode) (v : LeafValue) (j k : ℤ) → Within j (raw_at e operands_fit plain v) → fits_in m (operands_fit v && is_inside (raw_at e operands_fit plain v)) ≡ true → result_in m j ≡ Ok k → j ≡ k
      same_whole Stop v j k i f g = (in_range_gives j k g).0
      same_whole Wrap v j k i f g = sym (wrapped_int j (int_inside j (raw_at e operands_fit plain v) i (and_right (operands_fit v) (is_inside (raw_at e operands_fit plain v)) f))) ∙ gives_same g

      operates : (v : LeafValue) (s : List ℤ) (k : ℤ) → M.valid v → IsTermOf v.variables e → M.holds v s → value_of e s mode ≡ Ok k → GivesAt s (operation_if (fits_at e operands_fit plain v) (operation v)) k
      operates v s k h o w g =
          let p = results v s k h o w g in
          if_gives s (fits_at e operands_fit plain v) (operation v) k (λ f. subst (λ (x : ℤ). GivesAt s (operation v) x) (same_whole mode v p.whole k (whole_holds v s k h o w p) f p.is) p.operates)

  -- ---- a comparison

  difference_forms : (a b : Term) (n : ℕ) → IsTermOf n a → IsTermOf n b → AreForms n (form_of_term (Binary Sub a b))
  difference_forms a b n oa ob d g = forms n (Binary Sub a b) d (oa, ob) g

  pub comparison_sound : (e a b : Term) (op : Compare) (A B : Transfer)
      → form_of_term e ≡ None
      → ((n : ℕ) → IsTermOf n e → IsTermOf n a × IsTermOf n b)
      → ((s : List ℤ) → value_of e s mode ≡ (value_of a s mode >>= λ n. value_of b s mode >>= λ m. Ok (truth_of (holds_between op n m))))
      → Sound M mode a A → Sound M mode b B
      → Sound M mode e (comparison M mode op (variable_of a) (variable_of b) (form_of_term (Binary Sub a b)) A B)
  comparison_sound e a b op A B none over is da db = logical_sound e _ _ none
      (λ s k g. let t = both_give (value_of a s mode) (value_of b s mode) (λ n m. gives (truth_of (holds_between op n m))) k (sym (is s) ∙ g) in truth_two (holds_between op t.first t.second) k t.is)
      (λ v h o. side_answers op v h o) (λ v h o. side_answers (negation_of op) v h o)
      (λ v s h o w g. let t = both_give (value_of a s mode) (value_of b s mode) (λ n m. gives (truth_of (holds_between op n m))) (pos 1) (sym (is s) ∙ g) in
      side_holds op v s t.first t.second h o w t.first_is t.second_is (truth_one (holds_between op t.first t.second) t.is))
      (λ v s h o w g. let t = both_give (value_of a s mode) (value_of b s mode) (λ n m. gives (truth_of (holds_between op n m))) (pos 0) (sym (is s) ∙ g) in
      side_holds (negation_of op) v s t.first t.second h o w t.first_is t.second_is (negation_holds op t.first t.second (truth_zero (holds_between op t.first t.second) t.is)))
    where
      operands : (v : LeafValue) → M.valid v → IsTermOf v.variables e → Operands M laws mode a b (A.range v) (B.range v) (form_where (A.fits v && B.fits v) (form_of_term (Binary Sub a b))) (A.operation v) (B.operation v) v
      operands v h o =
          let p = over v.variables o in
          record {
            valid = h;
            left_over = p.0;
            right_over = p.1;
            left_int = da.range_in_int v h p.0;
            right_int = db.range_in_int v h p.1;
            forms = forms_where v.variables (A.fits v && B.fits v) (form_of_term (Binary Sub a b)) (difference_forms a b v.variables p.0 p.1);
            left_operations = da.operations v h p.0;
            right_operations = db.operations v h p.1;
          }

      side_answers : (c : Compare) (v : LeafValue) → M.valid v → IsTermOf v.variables e → IsLeafLike M v (operands_compared M c (variable_of a) (variable_of b) (A.range v) (B.range v) (form_where (A.fits v && B.fits v) (form_of_term (Binary Sub a b))) (A.operation v) (B.operation v) v)
      side_answers c v h o = operands_answers M laws mode c a b (A.range v) (B.range v) (form_where (A.fits v && B.fits v) (form_of_term (Binary Sub a b))) (A.operation v) (B.operation v) v (operands v h o)

      side_holds : (c : Compare) (v : LeafValue) (s : List ℤ) (n m : ℤ) → M.valid v → IsTermOf v.variables e → M.holds v s → value_of a s mode ≡ Ok n → value_of b s mode ≡ Ok m → holds_between c n m ≡ true
          → M.holds (operands_compared M c (variable_of a) (variable_of b) (A.range v) (B.range v) (form_where (A.fits v && B.fits v) (form_of_term (Binary Sub a b))) (A.operation v) (B.operation v) v) s
      side_holds c v s n m h o w ga gb t =
          let p = over v.variables o in
          operands_hold M laws mode c a b (A.range v) (B.range v) (form_where (A.fits v && B.fits v) (form_of_term (Binary Sub a b))) (A.operation v) (B.operation v) v s n m (operands v h o)
          (record {
            left_is = ga;
            right_is = gb;
            left_within = da.range_holds v s n h p.0 w ga;
            right_within = db.range_holds v s m h p.1 w gb;
            comes = comes_where s (A.fits v && B.fits v) (form_of_term (Binary Sub a b)) (n -ℤ m) (λ f. sub_comes s a b n m (da.form_comes v s n h p.0 w (and_left (A.fits v) (B.fits v) f) ga) (db.form_comes v s m h p.1 w (and_right (A.fits v) (B.fits v) f) gb));
            left_gives = da.operation_gives v s n h p.0 w ga;
            right_gives = db.operation_gives v s m h p.1 w gb;
          }) w t

  -- ---- `&&` and `||`

  module _ (e a b : Term) (A B : Transfer) (none : form_of_term e ≡ None) (over : (n : ℕ) → IsTermOf n e → IsTermOf n a × IsTermOf n b) (da : Sound M mode a A) (db : Sound M mode b B) where
    -- the leaf after the left side, and the right side in it
    next_over : (v w : LeafValue) → IsLeafLike M v w → IsTermOf v.variables e → IsTermOf w.variables b
    next_over v w h o = term_over M laws b v w h (over v.variables o).1

    pub both_sound : ((s : List ℤ) (k : ℤ) → value_of e s mode ≡ Ok k → BothTaken (value_of a s mode) (value_of b s mode) k) → Sound M mode e (both M mode A B)
    both_sound taken = logical_sound e _ _ none (λ s k g. two s k (taken s k g)) true_answers false_answers
        (λ v s h o w g. true_holds v s h o w (taken s (pos 1) g)) (λ v s h o w g. false_holds v s h o w (taken s (pos 0) g))
      where
        two : (s : List ℤ) (k : ℤ) → BothTaken (value_of a s mode) (value_of b s mode) k → (k ≡ pos 1) ⊎ (k ≡ pos 0)
        two s k (left_zero p q) = inr q
        two s k (both_taken n m p z q g) = truth_two _ k g

        first : (v : LeafValue) → M.valid v → IsTermOf v.variables e → IsLeafLike M v (A.when_true v)
        first v h o = da.true_answers v h (over v.variables o).0

        second : (v : LeafValue) → M.valid v → IsTermOf v.variables e → IsLeafLike M v (B.when_false (A.when_true v))
        second v h o = let t = first v h o in answers_then v _ _ t (db.false_answers _ t.valid (next_over v _ t o))

        true_answers : (v : LeafValue) → M.valid v → IsTermOf v.variables e → IsLeafLike M v (B.when_true (A.when_true v))
        true_answers v h o = let t = first v h o in answers_then v _ _ t (db.true_answers _ t.valid (next_over v _ t o))

        alike : (v : LeafValue) → M.valid v → IsTermOf v.variables e → Alike M (A.when_false v) (B.when_false (A.when_true v))
        alike v h o = let p = da.false_answers v h (over v.variables o).0 in record { first = p.valid; second = (second v h o).valid; same = p.same ∙ sym (second v h o).same }

        false_answers : (v : LeafValue) → M.valid v → IsTermOf v.variables e → IsLeafLike M v (M.join (A.when_false v) (B.when_false (A.when_true v)))
        false_answers v h o = answers_then v _ _ (da.false_answers v h (over v.variables o).0) (laws.join_answers _ _ (alike v h o))

        true_holds : (v : LeafValue) (s : List ℤ) → M.valid v → IsTermOf v.variables e → M.holds v s → BothTaken (value_of a s mode) (value_of b s mode) (pos 1) → M.holds (B.when_true (A.when_true v)) s
        true_holds v s h o w (left_zero p q) = cc
        true_holds v s h o w (both_taken n m p z q g) =
            let t = first v h o in
            db.true_holds _ s m t.valid (next_over v _ t o) (da.true_holds v s n h (over v.variables o).0 w p z) q (nonzero_from_test m (not_true _ (truth_one _ g)))

        false_holds : (v : LeafValue) (s : List ℤ) → M.valid v → IsTermOf v.variables e → M.holds v s → BothTaken (value_of a s mode) (value_of b s mode) (pos 0) → M.holds (M.join (A.when_false v) (B.when_false (A.when_true v))) s
        false_holds v s h o w (left_zero p q) = laws.join_holds _ _ s (alike v h o) (inl (da.false_holds v s h (over v.variables o).0 w p))
        false_holds v s h o w (both_taken n m p z q g) =
            let t = first v h o in
            laws.join_holds _ _ s (alike v h o) (inr (db.false_holds _ s t.valid (next_over v _ t o) (da.true_holds v s n h (over v.variables o).0 w p z) (q ∙ ap gives (zero_from_test m (not_false _ (truth_zero _ g))))))

    pub either_sound : ((s : List ℤ) (k : ℤ) → value_of e s mode ≡ Ok k → EitherTaken (value_of a s mode) (value_of b s mode) k) → Sound M mode e (either M mode A B)
    either_sound taken = logical_sound e _ _ none (λ s k g. two s k (taken s k g)) true_answers false_answers
        (λ v s h o w g. true_holds v s h o w (taken s (pos 1) g)) (λ v s h o w g. false_holds v s h o w (taken s (pos 0) g))
      where
        two : (s : List ℤ) (k : ℤ) → EitherTaken (value_of a s mode) (value_of b s mode) k → (k ≡ pos 1) ⊎ (k ≡ pos 0)
        two s k (left_nonzero n p z q) = inl q
        two s k (right_taken m p q g) = truth_two _ k g

        first : (v : LeafValue) → M.valid v → IsTermOf v.variables e → IsLeafLike M v (A.when_false v)
        first v h o = da.false_answers v h (over v.variables o).0

        second : (v : LeafValue) → M.valid v → IsTermOf v.variables e → IsLeafLike M v (B.when_true (A.when_false v))
        second v h o = let t = first v h o in answers_then v _ _ t (db.true_answers _ t.valid (next_over v _ t o))

        false_answers : (v : LeafValue) → M.valid v → IsTermOf v.variables e → IsLeafLike M v (B.when_false (A.when_false v))
        false_answers v h o = let t = first v h o in answers_then v _ _ t (db.false_answers _ t.valid (next_over v _ t o))

        alike : (v : LeafValue) → M.valid v → IsTermOf v.variables e → Alike M (A.when_true v) (B.when_true (A.when_false v))
        alike v h o = let p = da.true_answers v h (over v.variables o).0 in record { first = p.valid; second = (second v h o).valid; same = p.same ∙ sym (second v h o).same }

        true_answers : (v : LeafValue) → M.valid v → IsTermOf v.variables e → IsLeafLike M v (M.join (A.when_true v) (B.when_true (A.when_false v)))
        true_answers v h o = answers_then v _ _ (da.true_answers v h (over v.variables o).0) (laws.join_answers _ _ (alike v h o))

        true_holds : (v : LeafValue) (s : List ℤ) → M.valid v → IsTermOf v.variables e → M.holds v s → EitherTaken (value_of a s mode) (value_of b s mode) (pos 1) → M.holds (M.join (A.when_true v) (B.when_true (A.when_false v))) s
        true_holds v s h o w (left_nonzero n p z q) = laws.join_holds _ _ s (alike v h o) (inl (da.true_holds v s n h (over v.variables o).0 w p z))
        true_holds v s h o w (right_taken m p q g) =
            let t = first v h o in
            laws.join_holds _ _ s (alike v h o) (inr (db.true_holds _ s m t.valid (next_over v _ t o) (da.false_holds v s h (over v.variables o).0 w p) q (nonzero_from_test m (not_true _ (truth_one _ g)))))

        false_holds : (v : LeafValue) (s : List ℤ) → M.valid v → IsTermOf v.variables e → M.holds v s → EitherTaken (value_of a s mode) (value_of b s mode) (pos 0) → M.holds (B.when_false (A.when_false v)) s
        false_holds v s h o w (left_nonzero n p z q) = cc
        false_holds v s h o w (right_taken m p q g) =
            let t = first v h o in
            db.false_holds _ s t.valid (next_over v _ t o) (da.false_holds v s h (over v.variables o).0 w p) (q ∙ ap gives (zero_from_test m (not_false _ (truth_zero _ g))))
