-- Values of both modes, and the ranges that hold them.
use Rattle.std.proofs.Common.{◌≡◌, ◌≢◌, ◌⊎◌, inl, inr, ℤ, pos, negsuc, neg_ℤ, ◌≤ℤ◌, int_le, int_div, int_rem, Bool, true, false, not, ◌&&◌, ◌||◌, if◌then◌else◌, Some, None, Result, Ok, Err, refl, ap, sym, ◌∙◌, subst, arith}
use Rattle.std.specs.Int.{int_min, int_max}
use Rattle.std.specs.Ordering.{int_eq}
use Rattle.std.proofs.lemmas.Int.{ints, clamps}
use Rattle.std.proofs.lemmas.Bool.{false≢true}
use Rattle.c_tree.specs.declared.tree.Kind.{Kind}
use Rattle.c_tree.specs.declared.tree.Kind.TheVariants.{Overflow, ZeroDivisor}
use Rattle.c_tree.specs.declared.tree.Mode.{Mode}
use Rattle.c_tree.specs.declared.tree.Mode.TheVariants.{Stop, Wrap}
use Rattle.c_tree.specs.declared.tree.Op.{Op}
use Rattle.c_tree.specs.declared.tree.Op.TheVariants.{Div, Rem}
use Rattle.c_tree.specs.Value.{least, greatest, IsInt, in_range, wrapped, result_in, truth_of, is_zero, ◌>>=◌, quotient_of, remainder_of}
use Rattle.c_tree.proofs.Values.{IsInt-wrapped, wrapped_differs}
use Rattle.leaf_domain.specs.declared.range.Range.{Range}
use Rattle.leaf_domain.specs.Ranges.{Within, IsInInt, exact, empty_range, whole_int, meet_of, clip_of, fold_of}
use Rattle.leaf_domain.specs.Transfer.{truth_range, zero_range, negated_range, results_in, is_inside, is_within_int}
use Rattle.leaf_domain.proofs.CutLemmas.{ends_in_int, ends_hold}
use Rattle.leaf_domain.proofs.ArithmeticLemmas.{not_empty, rem_is_left}
use Rattle.leaf_domain.proofs.FoldLemmas.{fold_in_int, fold_holds}

-- ---- results

abbrev pub gives : ℤ → Result ℤ Kind
gives n = Ok n

pub gives_same : {n m : ℤ} → gives n ≡ Ok m → n ≡ m
gives_same e = cc

-- the first operand has a value, and the rest gives the value
pub then_gives : (x : Result ℤ Kind) (f : ℤ → Result ℤ Kind) (k : ℤ) → (x >>= f) ≡ Ok k → (n : ℤ) × (x ≡ Ok n) × (f n ≡ Ok k)
then_gives (Ok n) f k e = (n, refl, e)
then_gives (Err i) f k e = cc

-- the first operand stops, or it has a value and the rest stops
pub then_stops : (x : Result ℤ Kind) (f : ℤ → Result ℤ Kind) (i : Kind) → (x >>= f) ≡ Err i → (x ≡ Err i) ⊎ ((n : ℤ) × (x ≡ Ok n) × (f n ≡ Err i))
then_stops (Ok n) f i e = inr (n, refl, e)
then_stops (Err j) f i e = inl e

-- both operands have values
pub record BothGive (x y : Result ℤ Kind) (f : ℤ → ℤ → Result ℤ Kind) (r : Result ℤ Kind) : Type 0 where
  pub first : ℤ
  pub second : ℤ
  pub first_is : x ≡ Ok first
  pub second_is : y ≡ Ok second
  pub is : f first second ≡ r

pub both_give : (x y : Result ℤ Kind) (f : ℤ → ℤ → Result ℤ Kind) (k : ℤ) → (x >>= λ n. y >>= λ m. f n m) ≡ Ok k → BothGive x y f (Ok k)
both_give (Ok n) (Ok m) f k e = record { first = n; second = m; first_is = refl; second_is = refl; is = e }
both_give (Ok n) (Err i) f k e = cc
both_give (Err i) y f k e = cc

-- why an operator on two operands stops: the left one does, the right one after it, or the operator
pub data Stopping (x y : Result ℤ Kind) (f : ℤ → ℤ → Result ℤ Kind) (i : Kind) : Type 0 where
  at_left : x ≡ Err i → Stopping x y f i
  at_right : (n : ℤ) → x ≡ Ok n → y ≡ Err i → Stopping x y f i
  at_operator : BothGive x y f (Err i) → Stopping x y f i

pub both_stop : (x y : Result ℤ Kind) (f : ℤ → ℤ → Result ℤ Kind) (i : Kind) → (x >>= λ n. y >>= λ m. f n m) ≡ Err i → Stopping x y f i
both_stop (Ok n) (Ok m) f i e = at_operator (record { first = n; second = m; first_is = refl; second_is = refl; is = e })
both_stop (Ok n) (Err j) f i e = at_right n refl e
both_stop (Err j) y f i e = at_left e

pub in_range_gives : (n k : ℤ) → in_range n ≡ Ok k → (n ≡ k) × IsInt k
in_range_gives n k e = by_test (int_le least n && int_le n greatest) refl e
  where
    by_test : (t : Bool) → (int_le least n && int_le n greatest) ≡ t → (if t then gives n else Err Overflow) ≡ Ok k → (n ≡ k) × IsInt k
    by_test true f g = let h : n ≡ k = cc in (h, subst IsInt h (record { low = grind (arith, ints); high = grind (arith, ints) }))
    by_test false f g = cc

pub in_range_stops : (n : ℤ) (i : Kind) → in_range n ≡ Err i → (i ≡ Overflow) × (IsInt n → ⊥)
in_range_stops n i e = by_test (int_le least n && int_le n greatest) refl e
  where
    by_test : (t : Bool) → (int_le least n && int_le n greatest) ≡ t → (if t then gives n else Err Overflow) ≡ Err i → (i ≡ Overflow) × (IsInt n → ⊥)
    by_test true f g = cc
    by_test false f g = (cc, λ h. grind (arith, ints, h.low, h.high))

pub in_range_of_int : (n : ℤ) → IsInt n → in_range n ≡ Ok n
in_range_of_int n h = by_test (int_le least n && int_le n greatest) refl
  where
    by_test : (t : Bool) → (int_le least n && int_le n greatest) ≡ t → (if t then gives n else Err Overflow) ≡ Ok n
    by_test true f = refl
    by_test false f = absurd (false≢true (sym f ∙ grind (arith, ints, h.low, h.high)))

pub result_stops : (mode : Mode) (n : ℤ) (i : Kind) → result_in mode n ≡ Err i → (mode ≡ Stop) × (i ≡ Overflow) × (IsInt n → ⊥)
result_stops Stop n i e = let p = in_range_stops n i e in (refl, p.0, p.1)
result_stops Wrap n i e = cc

-- a number of `int` is itself when it is wrapped
pub wrapped_int : (n : ℤ) → IsInt n → wrapped n ≡ n
wrapped_int n h = let w = IsInt-wrapped n in let d = wrapped_differs n in omega (arith, ints, h.low, h.high, w.low, w.high, d.1)

-- ---- truth values

pub truth_two : (t : Bool) (k : ℤ) → gives (truth_of t) ≡ Ok k → (k ≡ pos 1) ⊎ (k ≡ pos 0)
truth_two true k e = inl (sym (gives_same e))
truth_two false k e = inr (sym (gives_same e))

pub truth_one : (t : Bool) → gives (truth_of t) ≡ Ok (pos 1) → t ≡ true
truth_one true e = refl
truth_one false e = cc

pub truth_zero : (t : Bool) → gives (truth_of t) ≡ Ok (pos 0) → t ≡ false
truth_zero true e = cc
truth_zero false e = refl

pub zero_from_test : (n : ℤ) → is_zero n ≡ true → n ≡ pos 0
zero_from_test n e = grind (arith, ints)

pub nonzero_from_test : (n : ℤ) → is_zero n ≡ false → n ≢ pos 0
nonzero_from_test n e z = absurd (false≢true (sym e ∙ ap is_zero z))

pub test_of_nonzero : (n : ℤ) → n ≢ pos 0 → is_zero n ≡ false
test_of_nonzero n z = by_test (is_zero n) refl
  where
    by_test : (t : Bool) → is_zero n ≡ t → is_zero n ≡ false
    by_test true e = absurd (z (zero_from_test n e))
    by_test false e = e

pub not_true : (t : Bool) → not t ≡ true → t ≡ false
not_true true e = cc
not_true false e = refl

pub not_false : (t : Bool) → not t ≡ false → t ≡ true
not_false true e = refl
not_false false e = cc

pub and_left : (p q : Bool) → (p && q) ≡ true → p ≡ true
and_left true q e = refl
and_left false q e = cc

pub and_right : (p q : Bool) → (p && q) ≡ true → q ≡ true
and_right true q e = e
and_right false q e = cc

-- ---- ranges

pub negated_holds : (n : ℤ) (a : Range) → Within n a → Within (neg_ℤ n) (negated_range a)
negated_holds n a h = grind (arith, ints)

pub clip_in_int : (a : Range) → IsInInt (clip_of a)
clip_in_int a = ends_in_int (int_max a.low least) (int_min a.high greatest) (λ p. (record { low = omega (arith, ints, clamps); high = omega (arith, ints, clamps) }, record { low = omega (arith, ints, clamps); high = omega (arith, ints, clamps) }))

pub clip_holds : (k : ℤ) (a : Range) → Within k a → IsInt k → Within k (clip_of a)
clip_holds k a h i = ends_hold k (int_max a.low least) (int_min a.high greatest) (omega (arith, ints, clamps)) (omega (arith, ints, clamps))

pub meet_holds : (k : ℤ) (a b : Range) → Within k a → Within k b → Within k (meet_of a b)
meet_holds k a b h i = ends_hold k (int_max a.low b.low) (int_min a.high b.high) (omega (arith, ints, clamps)) (omega (arith, ints, clamps))

pub in_int_at : (n : ℤ) (a : Range) → Within n a → IsInInt a → IsInt n
in_int_at n a h k = record { low = omega (arith, ints); high = omega (arith, ints) }

pub empty_in_int : IsInInt empty_range
empty_in_int = record { low = record { low = omega (arith, ints); high = omega (arith, ints) }; high = record { low = omega (arith, ints); high = omega (arith, ints) } }

pub whole_in_int : IsInInt whole_int
whole_in_int = record { low = record { low = omega (arith, ints); high = omega (arith, ints) }; high = record { low = omega (arith, ints); high = omega (arith, ints) } }

pub zero_in_int : IsInInt zero_range
zero_in_int = record { low = record { low = omega (arith, ints); high = omega (arith, ints) }; high = record { low = omega (arith, ints); high = omega (arith, ints) } }

pub truth_in_int : (t f : Bool) → IsInInt (truth_range t f)
truth_in_int true true = grind (arith, ints)
truth_in_int true false = grind (arith, ints)
truth_in_int false true = grind (arith, ints)
truth_in_int false false = grind (arith, ints)

pub truth_has_one : (f : Bool) → Within (pos 1) (truth_range true f)
truth_has_one true = grind (arith, ints)
truth_has_one false = grind (arith, ints)

pub truth_has_zero : (t : Bool) → Within (pos 0) (truth_range t true)
truth_has_zero true = grind (arith, ints)
truth_has_zero false = grind (arith, ints)

-- ---- the results of both modes

pub results_in_int : (mode : Mode) (a : Range) → IsInInt (results_in mode a)
results_in_int Stop a = clip_in_int a
results_in_int Wrap a = fold_in_int a

pub results_hold : (mode : Mode) (j k : ℤ) (a : Range) → Within j a → result_in mode j ≡ Ok k → Within k (results_in mode a)
results_hold Stop j k a h e = let p = in_range_gives j k e in clip_holds k a (subst (λ (x : ℤ). Within x a) p.0 h) p.1
results_hold Wrap j k a h e = subst (λ (x : ℤ). Within x (fold_of a)) (gives_same e) (fold_holds j a h)

-- a number of a range that is inside `int`
pub int_inside : (n : ℤ) (a : Range) → Within n a → is_inside a ≡ true → IsInt n
int_inside n a h e = let f : is_within_int a ≡ true = sym (ap (λ b. b || is_within_int a) (not_empty n a h)) ∙ e in in_int_at n a h (record { low = low f; high = high f })
  where
    low : is_within_int a ≡ true → IsInt a.low
    low f = record { low = grind (arith, ints); high = grind (arith, ints, h.low, h.high) }

    high : is_within_int a ≡ true → IsInt a.high
    high f = record { low = grind (arith, ints, h.low, h.high); high = grind (arith, ints) }

-- ---- quotients and remainders

pub record Divides (op : Op) (n m k : ℤ) : Type 0 where
  pub exact_is : exact op n m ≡ Some k
  pub rem_is : op ≡ Rem → n ≡ least → m ≡ negsuc 0 → ⊥
  pub int : IsInt k

pub quotient_gives : (n m k : ℤ) → quotient_of n m ≡ Ok k → Divides Div n m k
quotient_gives n m k e = by_test (is_zero m) refl e
  where
    by_test : (t : Bool) → is_zero m ≡ t → (if t then Err ZeroDivisor else in_range (int_div n m)) ≡ Ok k → Divides Div n m k
    by_test true f g = cc
    by_test false f g = let p = in_range_gives (int_div n m) k g in record { exact_is = ap (λ b. if b then None else Some (int_div n m)) f ∙ ap Some p.0; rem_is = λ q. cc; int = p.1 }

rem_in_int : (x y : ℤ) → IsInt x → int_min x (pos 0) ≤ℤ y → y ≤ℤ int_max x (pos 0) → IsInt y
rem_in_int x y j p w = record { low = omega (arith, ints, clamps); high = omega (arith, ints, clamps) }

pub remainder_gives : (n m k : ℤ) → IsInt n → remainder_of n m ≡ Ok k → Divides Rem n m k
remainder_gives n m k i e = by_tests (is_zero m) (int_eq n least && int_eq m (negsuc 0)) refl refl e
  where
    by_tests : (t u : Bool) → is_zero m ≡ t → (int_eq n least && int_eq m (negsuc 0)) ≡ u → (if t then Err ZeroDivisor else (if u then Err Overflow else gives (int_rem n m))) ≡ Ok k → Divides Rem n m k
    by_tests true u f g h = cc
    by_tests false true f g h = cc
    by_tests false false f g h =
        let q : int_rem n m ≡ k = cc in
        let r = rem_is_left n m (nonzero_from_test m f) in
        record {
          exact_is = ap (λ b. if b then None else Some (int_rem n m)) f ∙ ap Some q;
          rem_is = λ o x y. absurd (false≢true (sym g ∙ ap (λ z. int_eq z least && int_eq m (negsuc 0)) x ∙ ap (λ z. int_eq least least && int_eq z (negsuc 0)) y));
          int = subst IsInt q (rem_in_int n (int_rem n m) i r.low r.high);
        }
