-- Where a store stops, the statement may stop; and where an expression fits, no sum or product in it leaves `int`.
use Rattle.std.proofs.Common.{◌≡◌, ◌≢◌, ◌⊎◌, inl, inr, ℕ, ℤ, pos, negsuc, neg_ℤ, ◌+ℤ◌, ◌-ℤ◌, ◌*ℤ◌, int_le, int_lt, int_div, int_rem, Bool, true, false, not, ◌&&◌, ◌||◌, if◌then◌else◌, List, Option, Some, None, Result, Ok, Err, refl, ap, sym, ◌∙◌, subst, arith, slice_get}
use Rattle.std.specs.Ordering.{int_eq}
use Rattle.std.proofs.lemmas.Int.{ints}
use Rattle.fam_outer.specs.declared.faults.Place.{Place}
use Rattle.c_tree.specs.declared.tree.Kind.{Kind}
use Rattle.c_tree.specs.declared.tree.Kind.TheVariants.{Overflow, ZeroDivisor, Assertion}
use Rattle.c_tree.specs.declared.tree.Mode.{Mode}
use Rattle.c_tree.specs.declared.tree.Mode.TheVariants.{Stop, Wrap}
use Rattle.c_tree.specs.declared.tree.Op.{Op}
use Rattle.c_tree.specs.declared.tree.Op.TheVariants.{Add, Sub, Mul, Div, Rem, Lt, Le, Gt, Ge, Eq, Ne, And, Or}
use Rattle.c_tree.specs.Tree as tree
use Rattle.c_tree.specs.Tree.{Term, Number, Var, Neg, Not, Binary, Code}
use Rattle.c_tree.specs.Value.{value_of, result_in, in_range, truth_of, least, IsInt, is_zero, quotient_of, remainder_of, ◌>>=◌}
use Rattle.c_tree.specs.Fit.{IsTermOf, IsCodeOf}
use Rattle.c_tree.specs.Run.{Outcome, Moved, Stopped, with_value, with_input, step_of, Standing, Level, standing}
use Rattle.leaf_domain.specs.declared.range.Range.{Range}
use Rattle.leaf_domain.specs.Ranges.{Within, is_empty_range}
use Rattle.leaf_domain.specs.Forms.{form_of_term}
use Rattle.leaf_domain.specs.Leaves.{LeafValue, LeafMeaning, LeafLaws, IsLeafLike}
use Rattle.leaf_domain.specs.Transfer.{transfer, raw_of_term, range_of_term, assumed, is_inside, negated_range}
use Rattle.leaf_domain.specs.Stops.{has_number, may_leave, stops_at, either_stops, unless_nothing, may_term, is_of_value, may_fail, may_at}
use Rattle.leaf_domain.specs.Soundness.{FormsAreForms}
use Rattle.leaf_domain.proofs.ArithmeticLemmas.{not_empty}
use Rattle.leaf_domain.proofs.FormValues.{Comes, neg_comes, add_comes, sub_comes, mul_comes}
use Rattle.leaf_domain.proofs.Results.{gives, then_stops, Stopping, at_left, at_right, at_operator, both_stop, in_range_stops, result_stops, zero_from_test, nonzero_from_test, and_left, and_right, negated_holds, int_inside}
use Rattle.leaf_domain.proofs.Comparisons.{held, term_over}
use Rattle.leaf_domain.proofs.SoundNodes.{Sound, raw_holds}
use Rattle.leaf_domain.proofs.SoundLemmas.{transfer_sound, BothFit, Given, ranges_of, exact_within, assumed_holds, assumed_answers}

-- ---- tests

outside : (n : ℤ) (a : Range) → Within n a → (IsInt n → ⊥) → is_inside a ≡ false
outside n a w f = by_test (is_inside a) refl
  where
    by_test : (t : Bool) → is_inside a ≡ t → is_inside a ≡ false
    by_test true e = absurd (f (int_inside n a w e))
    by_test false e = e

has_within : (n : ℤ) (a : Range) → Within n a → has_number n a ≡ true
has_within n a w = grind (arith, ints, w.low, w.high)

or_left : (p q : Bool) → p ≡ true → (p || q) ≡ true
or_left true q e = refl
or_left false q e = cc

or_right : (p q : Bool) → q ≡ true → (p || q) ≡ true
or_right true q e = refl
or_right false q e = e

leaves : (mode : Mode) (kind : Kind) (a : Range) → mode ≡ Stop → kind ≡ Overflow → is_inside a ≡ false → may_leave mode kind a ≡ true
leaves Stop Overflow a p q e = ap not e
leaves Stop ZeroDivisor a p q e = cc
leaves Stop Assertion a p q e = cc
leaves Wrap kind a p q e = cc

stops_sum : (mode : Mode) (kind : Kind) (a r s : Range) → may_leave mode kind a ≡ true → stops_at mode kind Add a r s ≡ true
stops_sum mode Overflow a r s e = e
stops_sum mode ZeroDivisor a r s e = e
stops_sum mode Assertion a r s e = e

stops_difference : (mode : Mode) (kind : Kind) (a r s : Range) → may_leave mode kind a ≡ true → stops_at mode kind Sub a r s ≡ true
stops_difference mode Overflow a r s e = e
stops_difference mode ZeroDivisor a r s e = e
stops_difference mode Assertion a r s e = e

stops_product : (mode : Mode) (kind : Kind) (a r s : Range) → may_leave mode kind a ≡ true → stops_at mode kind Mul a r s ≡ true
stops_product mode Overflow a r s e = e
stops_product mode ZeroDivisor a r s e = e
stops_product mode Assertion a r s e = e

either_left : (p q w : Bool) (r s : Range) → p ≡ true → either_stops p q w r s ≡ true
either_left p q w r s e = or_left p _ e

either_right : (p q w : Bool) (r s : Range) → is_empty_range r ≡ false → q ≡ true → either_stops p q w r s ≡ true
either_right p q w r s e f = or_right p _ (or_left (not (is_empty_range r) && q) _ (ap (λ t. not t && q) e ∙ f))

either_own : (p q w : Bool) (r s : Range) → is_empty_range r ≡ false → is_empty_range s ≡ false → w ≡ true → either_stops p q w r s ≡ true
either_own p q w r s e f g =
    or_right p _ (or_right (not (is_empty_range r) && q) _ (ap (λ t. not (t || is_empty_range s) && w) e ∙ ap (λ t. not t && w) f ∙ g))

-- ---- why quotients, remainders, `&&` and `||` stop

quotient_stops : (n m : ℤ) (kind : Kind) → quotient_of n m ≡ Err kind → ((kind ≡ ZeroDivisor) × (m ≡ pos 0)) ⊎ ((kind ≡ Overflow) × (is_zero m ≡ false) × (IsInt (int_div n m) → ⊥))
quotient_stops n m kind e = by_test (is_zero m) refl e
  where
    by_test : (t : Bool) → is_zero m ≡ t → (if t then Err ZeroDivisor else in_range (int_div n m)) ≡ Err kind → ((kind ≡ ZeroDivisor) × (m ≡ pos 0)) ⊎ ((kind ≡ Overflow) × (is_zero m ≡ false) × (IsInt (int_div n m) → ⊥))
    by_test true f g = inl (cc, zero_from_test m f)
    by_test false f g = let p = in_range_stops (int_div n m) kind g in inr (p.0, f, p.1)

same_test : (n m : ℤ) → int_eq n m ≡ true → n ≡ m
same_test n m e = grind (arith, ints)

remainder_stops : (n m : ℤ) (kind : Kind) → remainder_of n m ≡ Err kind → ((kind ≡ ZeroDivisor) × (m ≡ pos 0)) ⊎ ((kind ≡ Overflow) × (n ≡ least) × (m ≡ negsuc 0))
remainder_stops n m kind e = by_tests (is_zero m) (int_eq n least && int_eq m (negsuc 0)) refl refl e
  where
    by_tests : (t u : Bool) → is_zero m ≡ t → (int_eq n least && int_eq m (negsuc 0)) ≡ u → (if t then Err ZeroDivisor else (if u then Err Overflow else gives (int_rem n m))) ≡ Err kind → ((kind ≡ ZeroDivisor) × (m ≡ pos 0)) ⊎ ((kind ≡ Overflow) × (n ≡ least) × (m ≡ negsuc 0))
    by_tests true u f g h = inl (cc, zero_from_test m f)
    by_tests false true f g h = inr (cc, same_test n least (and_left _ _ g), same_test m (negsuc 0) (and_right (int_eq n least) _ g))
    by_tests false false f g h = cc

data BothStop (x y : Result ℤ Kind) (i : Kind) : Type 0 where
  left_stops : x ≡ Err i → BothStop x y i
  right_stops : (n : ℤ) → x ≡ Ok n → n ≢ pos 0 → y ≡ Err i → BothStop x y i

both_stops : (x y : Result ℤ Kind) (i : Kind) → (x >>= λ n. if is_zero n then Ok (pos 0) else y >>= λ m. Ok (truth_of (not (is_zero m)))) ≡ Err i → BothStop x y i
both_stops (Err j) y i e = left_stops e
both_stops (Ok n) y i e = by_test (is_zero n) refl y e
  where
    by_test : (t : Bool) → is_zero n ≡ t → (z : Result ℤ Kind) → (if t then gives (pos 0) else z >>= λ m. Ok (truth_of (not (is_zero m)))) ≡ Err i → BothStop (Ok n) z i
    by_test true f z g = cc
    by_test false f (Ok m) g = cc
    by_test false f (Err j) g = right_stops n refl (nonzero_from_test n f) g

data EitherStop (x y : Result ℤ Kind) (i : Kind) : Type 0 where
  left_stops : x ≡ Err i → EitherStop x y i
  right_stops : x ≡ Ok (pos 0) → y ≡ Err i → EitherStop x y i

either_stop : (x y : Result ℤ Kind) (i : Kind) → (x >>= λ n. if is_zero n then y >>= (λ m. Ok (truth_of (not (is_zero m)))) else Ok (pos 1)) ≡ Err i → EitherStop x y i
either_stop (Err j) y i e = EitherStop.left_stops e
either_stop (Ok n) y i e = by_test (is_zero n) refl y e
  where
    by_test : (t : Bool) → is_zero n ≡ t → (z : Result ℤ Kind) → (if t then z >>= (λ m. Ok (truth_of (not (is_zero m)))) else gives (pos 1)) ≡ Err i → EitherStop (Ok n) z i
    by_test false f z g = cc
    by_test true f (Ok m) g = cc
    by_test true f (Err j) g = EitherStop.right_stops (ap gives (zero_from_test n f)) g

-- an expression stops with a kind of its own, and it may
record MayStop (M : LeafMeaning) (mode : Mode) (kind : Kind) (e : Term) (v : LeafValue) : Type 0 where
  of_value : is_of_value kind ≡ true
  may : may_term M mode kind e v ≡ true

of_overflow : (kind : Kind) → kind ≡ Overflow → is_of_value kind ≡ true
of_overflow kind e = ap is_of_value e

of_zero : (kind : Kind) → kind ≡ ZeroDivisor → is_of_value kind ≡ true
of_zero kind e = ap is_of_value e

module _ (M : LeafMeaning) (laws : LeafLaws M) (mode : Mode) (forms : FormsAreForms) where
  pub sound : (e : Term) → Sound M mode e (transfer M mode e)
  sound e = transfer_sound M laws mode forms e

  -- ---- the whole result lies in the range before clipping

  pub raw_neg : (a : Term) (v : LeafValue) (s : List ℤ) (n : ℤ) → M.valid v → IsTermOf v.variables a → M.holds v s → value_of a s mode ≡ Ok n → Within (neg_ℤ n) (raw_of_term M mode (Neg a) v)
  raw_neg a v s n h o w g = rw (held M laws v s w)
      (raw_holds M laws mode forms (form_of_term (Neg a)) ((transfer M mode a).fits v) (negated_range (range_of_term M mode a v)) v s (neg_ℤ n) h (λ d q. forms v.variables (Neg a) d o q) w
      (λ f. neg_comes s a n ((sound a).form_comes v s n h o w f g)) (negated_holds n _ ((sound a).range_holds v s n h o w g)))

  left_within : (a b : Term) (v : LeafValue) (s : List ℤ) (n m : ℤ) → Given M laws mode forms a b v s n m → Within n (range_of_term M mode a v)
  left_within a b v s n m p = (sound a).range_holds v s n p.valid p.over.0 p.held_at p.left_is

  right_within : (a b : Term) (v : LeafValue) (s : List ℤ) (n m : ℤ) → Given M laws mode forms a b v s n m → Within m (range_of_term M mode b v)
  right_within a b v s n m p = (sound b).range_holds v s m p.valid p.over.1 p.held_at p.right_is

  left_comes : (a b : Term) (v : LeafValue) (s : List ℤ) (n m : ℤ) → Given M laws mode forms a b v s n m → BothFit M laws mode forms a b v ≡ true → Comes s (form_of_term a) n
  left_comes a b v s n m p f = (sound a).form_comes v s n p.valid p.over.0 p.held_at (and_left _ _ f) p.left_is

  right_comes : (a b : Term) (v : LeafValue) (s : List ℤ) (n m : ℤ) → Given M laws mode forms a b v s n m → BothFit M laws mode forms a b v ≡ true → Comes s (form_of_term b) m
  right_comes a b v s n m p f = (sound b).form_comes v s m p.valid p.over.1 p.held_at (and_right _ _ f) p.right_is

  pub raw_add : (a b : Term) (v : LeafValue) (s : List ℤ) (n m : ℤ) → Given M laws mode forms a b v s n m → Within (n +ℤ m) (raw_of_term M mode (Binary Add a b) v)
  raw_add a b v s n m p = rw (held M laws v s p.held_at)
      (raw_holds M laws mode forms (form_of_term (Binary Add a b)) (BothFit M laws mode forms a b v) (ranges_of M laws mode forms Add a b v) v s (n +ℤ m) p.valid (λ d q. forms v.variables (Binary Add a b) d p.over q) p.held_at
      (λ f. add_comes s a b n m (left_comes a b v s n m p f) (right_comes a b v s n m p f))
      (exact_within M laws mode forms Add a b (sound a) (sound b) v s n m (n +ℤ m) p refl (λ q. cc)))

  pub raw_sub : (a b : Term) (v : LeafValue) (s : List ℤ) (n m : ℤ) → Given M laws mode forms a b v s n m → Within (n -ℤ m) (raw_of_term M mode (Binary Sub a b) v)
  raw_sub a b v s n m p = rw (held M laws v s p.held_at)
      (raw_holds M laws mode forms (form_of_term (Binary Sub a b)) (BothFit M laws mode forms a b v) (ranges_of M laws mode forms Sub a b v) v s (n -ℤ m) p.valid (λ d q. forms v.variables (Binary Sub a b) d p.over q) p.held_at
      (λ f. sub_comes s a b n m (left_comes a b v s n m p f) (right_comes a b v s n m p f))
      (exact_within M laws mode forms Sub a b (sound a) (sound b) v s n m (n -ℤ m) p refl (λ q. cc)))

  pub raw_mul : (a b : Term) (v : LeafValue) (s : List ℤ) (n m : ℤ) → Given M laws mode forms a b v s n m → Within (n *ℤ m) (raw_of_term M mode (Binary Mul a b) v)
  raw_mul a b v s n m p = rw (held M laws v s p.held_at)
      (raw_holds M laws mode forms (form_of_term (Binary Mul a b)) (BothFit M laws mode forms a b v) (ranges_of M laws mode forms Mul a b v) v s (n *ℤ m) p.valid (λ d q. forms v.variables (Binary Mul a b) d p.over q) p.held_at
      (λ f. mul_comes s a b n m (left_comes a b v s n m p f) (right_comes a b v s n m p f))
      (exact_within M laws mode forms Mul a b (sound a) (sound b) v s n m (n *ℤ m) p refl (λ q. cc)))

  raw_div : (a b : Term) (v : LeafValue) (s : List ℤ) (n m : ℤ) → Given M laws mode forms a b v s n m → is_zero m ≡ false → Within (int_div n m) (raw_of_term M mode (Binary Div a b) v)
  raw_div a b v s n m p z = rw (held M laws v s p.held_at)
      (exact_within M laws mode forms Div a b (sound a) (sound b) v s n m (int_div n m) p (ap (λ t. if t then None else Some (int_div n m)) z) (λ q. cc))

  -- ---- an expression that stops

  unless_held : (v : LeafValue) (s : List ℤ) (b : Bool) → M.holds v s → b ≡ true → unless_nothing v b ≡ true
  unless_held v s b w e = rw (held M laws v s w) e

  -- how an operator on two operands stops
  operator_may : (kind : Kind) (op : Op) (a b : Term) (v : LeafValue) (s : List ℤ) (n m : ℤ) → Given M laws mode forms a b v s n m
      → stops_at mode kind op (raw_of_term M mode (Binary op a b) v) (range_of_term M mode a v) (range_of_term M mode b v) ≡ true
      → unless_nothing v (either_stops (may_term M mode kind a v) (may_term M mode kind b v) (stops_at mode kind op (raw_of_term M mode (Binary op a b) v) (range_of_term M mode a v) (range_of_term M mode b v)) (range_of_term M mode a v) (range_of_term M mode b v)) ≡ true
  operator_may kind op a b v s n m p e = unless_held v s _ p.held_at
      (either_own (may_term M mode kind a v) (may_term M mode kind b v) _ (range_of_term M mode a v) (range_of_term M mode b v)
      (not_empty n _ (left_within a b v s n m p)) (not_empty m _ (right_within a b v s n m p)) e)

  Stops : Term → Type 0
  Stops e = (kind : Kind) (v : LeafValue) (s : List ℤ) → M.valid v → IsTermOf v.variables e → M.holds v s → value_of e s mode ≡ Err kind → MayStop M mode kind e v

  -- an operator that takes both operands
  operands_stop : (op : Op) (a b : Term) (f : ℤ → ℤ → Result ℤ Kind) → Stops a → Stops b
      → ((kind : Kind) (v : LeafValue) → may_term M mode kind (Binary op a b) v ≡ unless_nothing v (either_stops (may_term M mode kind a v) (may_term M mode kind b v) (stops_at mode kind op (raw_of_term M mode (Binary op a b) v) (range_of_term M mode a v) (range_of_term M mode b v)) (range_of_term M mode a v) (range_of_term M mode b v)))
      → ((s : List ℤ) → value_of (Binary op a b) s mode ≡ (value_of a s mode >>= λ n. value_of b s mode >>= λ m. f n m))
      → ((n : ℕ) → IsTermOf n (Binary op a b) → IsTermOf n a × IsTermOf n b)
      → ((kind : Kind) (v : LeafValue) (s : List ℤ) (n m : ℤ) → Given M laws mode forms a b v s n m → f n m ≡ Err kind
      → (is_of_value kind ≡ true) × (stops_at mode kind op (raw_of_term M mode (Binary op a b) v) (range_of_term M mode a v) (range_of_term M mode b v) ≡ true))
      → Stops (Binary op a b)
  unfolding Stops
  operands_stop op a b f sa sb may_is is over own kind v s h o w g = by_cause (both_stop (value_of a s mode) (value_of b s mode) f kind (sym (is s) ∙ g))
    where
      p : IsTermOf v.variables a × IsTermOf v.variables b
      p = over v.variables o

      by_cause : Stopping (value_of a s mode) (value_of b s mode) f kind → MayStop M mode kind (Binary op a b) v
      by_cause (at_left e) = let t = sa kind v s h p.0 w e in record {
        of_value = t.of_value;
        may = may_is kind v ∙ unless_held v s _ w (either_left (may_term M mode kind a v) (may_term M mode kind b v) (stops_at mode kind op (raw_of_term M mode (Binary op a b) v) (range_of_term M mode a v) (range_of_term M mode b v)) (range_of_term M mode a v) (range_of_term M mode b v) t.may);
      }
      by_cause (at_right n d e) = let t = sb kind v s h p.1 w e in record {
        of_value = t.of_value;
        may = may_is kind v ∙ unless_held v s _ w (either_right (may_term M mode kind a v) (may_term M mode kind b v) (stops_at mode kind op (raw_of_term M mode (Binary op a b) v) (range_of_term M mode a v) (range_of_term M mode b v)) (range_of_term M mode a v) (range_of_term M mode b v) (not_empty n _ ((sound a).range_holds v s n h p.0 w d)) t.may);
      }
      by_cause (at_operator t) =
          let r : Given M laws mode forms a b v s t.first t.second = record { valid = h; over = p; held_at = w; left_is = t.first_is; right_is = t.second_is } in
          let q = own kind v s t.first t.second r t.is in
          record { of_value = q.0; may = may_is kind v ∙ operator_may kind op a b v s t.first t.second r q.1 }

  neg_stops : (a : Term) → Stops a → Stops (Neg a)
  unfolding Stops
  neg_stops a sa kind v s h o w g = by_cause (then_stops (value_of a s mode) (λ n. result_in mode (neg_ℤ n)) kind g)
    where
      by_cause : (value_of a s mode ≡ Err kind) ⊎ ((n : ℤ) × (value_of a s mode ≡ Ok n) × (result_in mode (neg_ℤ n) ≡ Err kind)) → MayStop M mode kind (Neg a) v
      by_cause (inl e) = let t = sa kind v s h o w e in record { of_value = t.of_value; may = unless_held v s _ w (or_left _ _ t.may) }
      by_cause (inr (n, d, e)) =
          let r = result_stops mode (neg_ℤ n) kind e in
          record {
            of_value = of_overflow kind r.1;
            may = unless_held v s _ w (or_right (may_term M mode kind a v) _
                (ap (λ t. not t && may_leave mode kind (raw_of_term M mode (Neg a) v)) (not_empty n _ ((sound a).range_holds v s n h o w d)) ∙ leaves mode kind _ r.0 r.1 (outside (neg_ℤ n) _ (raw_neg a v s n h o w d) r.2)));
          }

  not_stops : (a : Term) → Stops a → Stops (Not a)
  unfolding Stops
  not_stops a sa kind v s h o w g = by_cause (then_stops (value_of a s mode) (λ n. gives (truth_of (is_zero n))) kind g)
    where
      by_cause : (value_of a s mode ≡ Err kind) ⊎ ((n : ℤ) × (value_of a s mode ≡ Ok n) × (gives (truth_of (is_zero n)) ≡ Err kind)) → MayStop M mode kind (Not a) v
      by_cause (inl e) = let t = sa kind v s h o w e in record { of_value = t.of_value; may = unless_held v s _ w t.may }
      by_cause (inr (n, d, e)) = cc

  and_stops : (a b : Term) → Stops a → Stops b → Stops (Binary And a b)
  unfolding Stops
  and_stops a b sa sb kind v s h o w g = by_cause (both_stops (value_of a s mode) (value_of b s mode) kind g)
    where
      first : IsLeafLike M v (assumed M mode a true v)
      first = assumed_answers M laws mode forms a true v (record { valid = h; term = o.0 })

      by_cause : BothStop (value_of a s mode) (value_of b s mode) kind → MayStop M mode kind (Binary And a b) v
      by_cause (left_stops e) = let t = sa kind v s h o.0 w e in record { of_value = t.of_value; may = unless_held v s _ w (or_left _ _ t.may) }
      by_cause (right_stops n d z e) =
          let t = sb kind (assumed M mode a true v) s first.valid (term_over M laws b v _ first o.1) (assumed_holds M laws mode forms a true v s n (record { valid = h; term = o.0 }) w d z) e in
          record { of_value = t.of_value; may = unless_held v s _ w (or_right (may_term M mode kind a v) _ t.may) }

  or_stops : (a b : Term) → Stops a → Stops b → Stops (Binary Or a b)
  unfolding Stops
  or_stops a b sa sb kind v s h o w g = by_cause (either_stop (value_of a s mode) (value_of b s mode) kind g)
    where
      first : IsLeafLike M v (assumed M mode a false v)
      first = assumed_answers M laws mode forms a false v (record { valid = h; term = o.0 })

      by_cause : EitherStop (value_of a s mode) (value_of b s mode) kind → MayStop M mode kind (Binary Or a b) v
      by_cause (EitherStop.left_stops e) = let t = sa kind v s h o.0 w e in record { of_value = t.of_value; may = unless_held v s _ w (or_left _ _ t.may) }
      by_cause (EitherStop.right_stops d e) =
          let t = sb kind (assumed M mode a false v) s first.valid (term_over M laws b v _ first o.1) (assumed_holds M laws mode forms a false v s (pos 0) (record { valid = h; term = o.0 }) w d refl) e in
          record { of_value = t.of_value; may = unless_held v s _ w (or_right (may_term M mode kind a v) _ t.may) }

  quotient_may : (a b : Term) (kind : Kind) (v : LeafValue) (s : List ℤ) (n m : ℤ) → Given M laws mode forms a b v s n m → quotient_of n m ≡ Err kind
      → (is_of_value kind ≡ true) × (stops_at mode kind Div (raw_of_term M mode (Binary Div a b) v) (range_of_term M mode a v) (range_of_term M mode b v) ≡ true)
  quotient_may a b kind v s n m p e = by_cause kind (quotient_stops n m kind e)
    where
      by_cause : (k : Kind) → ((k ≡ ZeroDivisor) × (m ≡ pos 0)) ⊎ ((k ≡ Overflow) × (is_zero m ≡ false) × (IsInt (int_div n m) → ⊥))
          → (is_of_value k ≡ true) × (stops_at mode k Div (raw_of_term M mode (Binary Div a b) v) (range_of_term M mode a v) (range_of_term M mode b v) ≡ true)
      by_cause Overflow (inl q) = cc q.0
      by_cause Assertion (inl q) = cc q.0
      by_cause ZeroDivisor (inl q) = (refl, has_within (pos 0) _ (subst (λ (x : ℤ). Within x (range_of_term M mode b v)) q.1 (right_within a b v s n m p)))
      by_cause Overflow (inr q) = (refl, ap not (outside (int_div n m) _ (raw_div a b v s n m p q.1) q.2))
      by_cause ZeroDivisor (inr q) = cc q.0
      by_cause Assertion (inr q) = cc q.0

  remainder_may : (a b : Term) (kind : Kind) (v : LeafValue) (s : List ℤ) (n m : ℤ) → Given M laws mode forms a b v s n m → remainder_of n m ≡ Err kind
      → (is_of_value kind ≡ true) × (stops_at mode kind Rem (raw_of_term M mode (Binary Rem a b) v) (range_of_term M mode a v) (range_of_term M mode b v) ≡ true)
  remainder_may a b kind v s n m p e = by_cause kind (remainder_stops n m kind e)
    where
      by_cause : (k : Kind) → ((k ≡ ZeroDivisor) × (m ≡ pos 0)) ⊎ ((k ≡ Overflow) × (n ≡ least) × (m ≡ negsuc 0))
          → (is_of_value k ≡ true) × (stops_at mode k Rem (raw_of_term M mode (Binary Rem a b) v) (range_of_term M mode a v) (range_of_term M mode b v) ≡ true)
      by_cause Overflow (inl q) = cc q.0
      by_cause Assertion (inl q) = cc q.0
      by_cause ZeroDivisor (inl q) = (refl, has_within (pos 0) _ (subst (λ (x : ℤ). Within x (range_of_term M mode b v)) q.1 (right_within a b v s n m p)))
      by_cause Overflow (inr q) = (
        refl,
        ap (λ t. t && has_number (negsuc 0) (range_of_term M mode b v)) (has_within least _ (subst (λ (x : ℤ). Within x (range_of_term M mode a v)) q.1 (left_within a b v s n m p)))
            ∙ has_within (negsuc 0) _ (subst (λ (x : ℤ). Within x (range_of_term M mode b v)) q.2 (right_within a b v s n m p)),
      )
      by_cause ZeroDivisor (inr q) = cc q.0
      by_cause Assertion (inr q) = cc q.0

  -- an operator whose results overflow
  result_may : (op : Op) (j : ℤ) (a b : Term) (kind : Kind) (v : LeafValue) → Within j (raw_of_term M mode (Binary op a b) v) → result_in mode j ≡ Err kind
      → (is_of_value kind ≡ true) × (may_leave mode kind (raw_of_term M mode (Binary op a b) v) ≡ true)
  result_may op j a b kind v w e = let r = result_stops mode j kind e in (of_overflow kind r.1, leaves mode kind _ r.0 r.1 (outside j _ w r.2))

  -- a comparison of two numbers never stops itself
  truth_may : {A : Type 0} (t : Bool) (kind : Kind) → gives (truth_of t) ≡ Err kind → A
  truth_may t kind e = absurd (never (truth_of t) e)
    where
      never : (n : ℤ) → gives n ≡ Err kind → ⊥
      never n e = cc

  term_stops : (e : Term) → Stops e
  unfolding Stops
  term_stops (Number n) = λ kind v s h o w g. cc
  term_stops (Var x) = λ kind v s h o w g. cc
  term_stops (Neg a) = neg_stops a (term_stops a)
  term_stops (Not a) = not_stops a (term_stops a)
  term_stops (Binary Add a b) = operands_stop Add a b (λ n m. result_in mode (n +ℤ m)) (term_stops a) (term_stops b) (λ k v. refl) (λ s. refl) (λ n o. o)
      (λ kind v s n m p e. let r = result_may Add (n +ℤ m) a b kind v (raw_add a b v s n m p) e in (r.0, stops_sum mode kind _ _ _ r.1))
  term_stops (Binary Sub a b) = operands_stop Sub a b (λ n m. result_in mode (n -ℤ m)) (term_stops a) (term_stops b) (λ k v. refl) (λ s. refl) (λ n o. o)
      (λ kind v s n m p e. let r = result_may Sub (n -ℤ m) a b kind v (raw_sub a b v s n m p) e in (r.0, stops_difference mode kind _ _ _ r.1))
  term_stops (Binary Mul a b) = operands_stop Mul a b (λ n m. result_in mode (n *ℤ m)) (term_stops a) (term_stops b) (λ k v. refl) (λ s. refl) (λ n o. o)
      (λ kind v s n m p e. let r = result_may Mul (n *ℤ m) a b kind v (raw_mul a b v s n m p) e in (r.0, stops_product mode kind _ _ _ r.1))
  term_stops (Binary Div a b) = operands_stop Div a b (λ n m. quotient_of n m) (term_stops a) (term_stops b) (λ k v. refl) (λ s. refl) (λ n o. o) (quotient_may a b)
  term_stops (Binary Rem a b) = operands_stop Rem a b (λ n m. remainder_of n m) (term_stops a) (term_stops b) (λ k v. refl) (λ s. refl) (λ n o. o) (remainder_may a b)
  term_stops (Binary Lt a b) = operands_stop Lt a b (λ n m. gives (truth_of (int_lt n m))) (term_stops a) (term_stops b) (λ k v. refl) (λ s. refl) (λ n o. o) (λ kind v s n m p e. truth_may (int_lt n m) kind e)
  term_stops (Binary Le a b) = operands_stop Le a b (λ n m. gives (truth_of (int_le n m))) (term_stops a) (term_stops b) (λ k v. refl) (λ s. refl) (λ n o. o) (λ kind v s n m p e. truth_may (int_le n m) kind e)
  term_stops (Binary Gt a b) = operands_stop Gt a b (λ n m. gives (truth_of (int_lt m n))) (term_stops a) (term_stops b) (λ k v. refl) (λ s. refl) (λ n o. o) (λ kind v s n m p e. truth_may (int_lt m n) kind e)
  term_stops (Binary Ge a b) = operands_stop Ge a b (λ n m. gives (truth_of (int_le m n))) (term_stops a) (term_stops b) (λ k v. refl) (λ s. refl) (λ n o. o) (λ kind v s n m p e. truth_may (int_le m n) kind e)
  term_stops (Binary Eq a b) = operands_stop Eq a b (λ n m. gives (truth_of (int_eq n m))) (term_stops a) (term_stops b) (λ k v. refl) (λ s. refl) (λ n o. o) (λ kind v s n m p e. truth_may (int_eq n m) kind e)
  term_stops (Binary Ne a b) = operands_stop Ne a b (λ n m. gives (truth_of (not (int_eq n m)))) (term_stops a) (term_stops b) (λ k v. refl) (λ s. refl) (λ n o. o) (λ kind v s n m p e. truth_may (not (int_eq n m)) kind e)
  term_stops (Binary And a b) = and_stops a b (term_stops a) (term_stops b)
  term_stops (Binary Or a b) = or_stops a b (term_stops a) (term_stops b)

  -- ---- a statement that stops

  value_stops : (place p : Place) (kind : Kind) (x : Result ℤ Kind) (go : ℤ → Outcome) → ((n : ℤ) → go n ≡ Stopped p kind → ⊥) → with_value place x go ≡ Stopped p kind → x ≡ Err kind
  value_stops place p kind (Ok n) go f e = absurd (f n e)
  value_stops place p kind (Err k) go f e = cc

  test_may : (e : Term) (kind : Kind) (v : LeafValue) (s : List ℤ) → M.valid v → IsTermOf v.variables e → M.holds v s → value_of e s mode ≡ Err kind → (is_of_value kind && may_term M mode kind e v) ≡ true
  unfolding Stops
  test_may e kind v s h o w g = let t = term_stops e kind v s h o w g in ap (λ b. b && may_term M mode kind e v) t.of_value ∙ t.may

  moves : (s : Standing) (p : Place) (kind : Kind) → Moved s ≡ Stopped p kind → ⊥
  moves s p kind e = cc

  assert_may : (place p : Place) (test : Term) (rest : Code) (kind : Kind) (v : LeafValue) (levels : List Level) (s : List ℤ) (taken : ℕ) → M.valid v → IsTermOf v.variables test → M.holds v s
      → with_value place (value_of test s mode) (λ n. if is_zero n then Stopped place Assertion else Moved (standing rest levels s taken)) ≡ Stopped p kind
      → (if is_of_value kind then may_term M mode kind test v else may_fail M mode test v) ≡ true
  unfolding Stops
  assert_may place p test rest kind v levels s taken h o w g = by_value (value_of test s mode) refl g
    where
      fails : (n : ℤ) → value_of test s mode ≡ Ok n → n ≡ pos 0 → may_fail M mode test v ≡ true
      fails n d z = unless_held v s _ w (ap not (held M laws (assumed M mode test false v) s (assumed_holds M laws mode forms test false v s n (record { valid = h; term = o }) w d z)))

      by_test : (n : ℤ) (t : Bool) → value_of test s mode ≡ Ok n → is_zero n ≡ t → (if t then Stopped place Assertion else Moved (standing rest levels s taken)) ≡ Stopped p kind
          → (if is_of_value kind then may_term M mode kind test v else may_fail M mode test v) ≡ true
      by_test n true d f e = let q : kind ≡ Assertion = cc in ap (λ k. if is_of_value k then may_term M mode k test v else may_fail M mode test v) q ∙ fails n d (zero_from_test n f)
      by_test n false d f e = absurd (moves _ p kind e)

      by_value : (x : Result ℤ Kind) → value_of test s mode ≡ x → with_value place x (λ n. if is_zero n then Stopped place Assertion else Moved (standing rest levels s taken)) ≡ Stopped p kind
          → (if is_of_value kind then may_term M mode kind test v else may_fail M mode test v) ≡ true
      by_value (Ok n) d e = by_test n (is_zero n) d refl e
      by_value (Err k) d e =
          let q : k ≡ kind = cc in
          let t = term_stops test kind v s h o w (d ∙ ap Err q) in
          ap (λ b. if b then may_term M mode kind test v else may_fail M mode test v) t.of_value ∙ t.may

  input_moves : (place p : Place) (kind : Kind) (x : Option ℤ) (go : ℤ → Standing) → with_input place x (λ n. Moved (go n)) ≡ Stopped p kind → ⊥
  input_moves place p kind (Some n) go e = cc
  input_moves place p kind None go e = cc

  pub code_may : (c : Code) (v : LeafValue) (levels : List Level) (s inputs : List ℤ) (taken : ℕ) (place : Place) (kind : Kind) → M.valid v → IsCodeOf v.variables c → M.holds v s
      → step_of mode inputs c levels s taken ≡ Stopped place kind → may_at M mode kind c v ≡ true
  code_may tree.Done v levels s inputs taken p kind h o w g = cc
  code_may (tree.Assign place x e rest) v levels s inputs taken p kind h o w g = test_may e kind v s h o.1 w (value_stops place p kind (value_of e s mode) _ (λ n. moves _ p kind) g)
  code_may (tree.Input place x rest) v levels s inputs taken p kind h o w g = absurd (input_moves place p kind (slice_get inputs taken) _ g)
  code_may (tree.Assert place e rest) v levels s inputs taken p kind h o w g = assert_may place p e rest kind v levels s taken h o.0 w g
  code_may (tree.If place e yes_side no_side rest) v levels s inputs taken p kind h o w g = test_may e kind v s h o.0 w (value_stops place p kind (value_of e s mode) _ (λ n. moves _ p kind) g)
  code_may (tree.While place e step body rest) v levels s inputs taken p kind h o w g = test_may e kind v s h o.0 w (value_stops place p kind (value_of e s mode) _ (λ n. moves _ p kind) g)
  code_may (tree.Do place body at e rest) v levels s inputs taken p kind h o w g = cc
  code_may (tree.Leave place tree.Break rest) v levels s inputs taken p kind h o w g = cc
  code_may (tree.Leave place tree.Continue rest) v levels s inputs taken p kind h o w g = cc
  code_may (tree.Leave place (tree.Return e) rest) v levels s inputs taken p kind h o w g = test_may e kind v s h o.0 w (value_stops place p kind (value_of e s mode) _ (λ n. moves _ p kind) g)
  code_may (tree.Block place body rest) v levels s inputs taken p kind h o w g = cc
  code_may (tree.Skip place rest) v levels s inputs taken p kind h o w g = cc
  code_may (tree.Cond number yes_side no_side rest) v levels s inputs taken p kind h o w g = cc
