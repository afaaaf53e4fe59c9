-- What lies in both of two ranges.
use Rattle.std.proofs.Common.{◌≡◌, ℕ, ℤ, Bool, true, false, if◌then◌else◌, Option, Some, None, IfSome, refl, sym, subst, arith, int_lt}
use Rattle.std.specs.Int.{int_min, int_max}
use Rattle.std.specs.Ordering.{int_eq}
use Rattle.std.proofs.lemmas.Int.{ints, clamps}
use Rattle.leaf_domain.specs.declared.range.Range.{Range}
use Rattle.leaf_domain.specs.Ranges.{Within, IsInInt, meet_of, empty_range, is_empty_range}
use Rattle.leaf_domain.specs.Leaves.{IsStepsFrom}
use Rattle.leaf_domain.proofs.ArithmeticLemmas.{one_step}
use Rattle.leaf_domain.proofs.CutLemmas.{ends_in_int, ends_hold}
use Rattle.paired_leaf.specs.PairedLeaves.{both_ranges, both_bounds, step_where}
use Rattle.paired_leaf.proofs.PairLemmas.{of_either}

pub meet_in_int : (r q : Range) → IsInInt r → IsInInt q → IsInInt (meet_of r q)
meet_in_int r q i j =
    ends_in_int (int_max r.low q.low) (int_min r.high q.high)
    (λ p. (
      record { low = omega (arith, ints, clamps, i.low.low, j.low.low, i.low.high, j.low.high); high = omega (arith, ints, clamps, i.low.low, j.low.low, i.low.high, j.low.high) },
      record { low = omega (arith, ints, clamps, i.high.low, j.high.low, i.high.high, j.high.high); high = omega (arith, ints, clamps, i.high.low, j.high.low, i.high.high, j.high.high) },
    ))

pub meet_has : (r q : Range) (n : ℤ) → Within n r → Within n q → Within n (meet_of r q)
meet_has r q n h k = ends_hold n (int_max r.low q.low) (int_min r.high q.high) (omega (arith, ints, clamps, h.low, k.low)) (omega (arith, ints, clamps, h.high, k.high))

pub meet_empty : (r q : Range) → is_empty_range r ≡ true → is_empty_range (meet_of r q) ≡ true
meet_empty r q e = by_test (int_lt (int_min r.high q.high) (int_max r.low q.low)) (ends_apart r.low r.high q.low q.high e)
  where
    ends_apart : (l h k i : ℤ) → int_lt h l ≡ true → int_lt (int_min h i) (int_max l k) ≡ true
    ends_apart l h k i e = grind (arith, ints, clamps)

    by_test : (t : Bool) → t ≡ true → is_empty_range (if t then empty_range else record { low = int_max r.low q.low; high = int_min r.high q.high }) ≡ true
    by_test true e = refl
    by_test false e = cc

-- ---- where there are ranges
pub if_some : {X : Type 0} (o : Option X) (P : X → Type 0) → ((x : X) → o ≡ Some x → P x) → IfSome o P
if_some None P f = tt
if_some (Some x) P f = f x refl

pub at_some : {X : Type 0} (o : Option X) (P : X → Type 0) (x : X) → IfSome o P → o ≡ Some x → P x
at_some o P x h e = subst (λ p. IfSome p P) e h

pub both_have : (o p : Option Range) (n : ℤ) → IfSome o (Within n) → IfSome p (Within n) → IfSome (both_ranges o p) (Within n)
both_have None p n h k = k
both_have (Some r) None n h k = h
both_have (Some r) (Some q) n h k = meet_has r q n h k

abbrev pub IsEmpty : Range → Type 0
IsEmpty r = is_empty_range r ≡ true

pub both_empty : (o p : Option Range) → IfSome o IsEmpty → IfSome p IsEmpty → IfSome (both_ranges o p) IsEmpty
both_empty None p h k = k
both_empty (Some r) None h k = h
both_empty (Some r) (Some q) h k = meet_empty r q h

-- ---- bounds
pub bounds_in_int : (r q : Range) → IsInInt r → IsInInt q → IsInInt (both_bounds r q)
bounds_in_int r q i j = of_either IsInInt (is_empty_range (meet_of r q)) r (meet_of r q) i (meet_in_int r q i j)

pub bounds_have : (r q : Range) (n : ℤ) → Within n r → Within n q → Within n (both_bounds r q)
bounds_have r q n h k = of_either (Within n) (is_empty_range (meet_of r q)) r (meet_of r q) h (meet_has r q n h k)

-- the step of the second, where its low end is the low end
pub steps_from : (r q : Range) (k : ℕ) (n : ℤ) → IsStepsFrom q.low k n → IsStepsFrom r.low (step_where r q k) n
steps_from r q k n h = by_test (int_eq r.low q.low) refl
  where
    same_low : (l m : ℤ) → int_eq l m ≡ true → l ≡ m
    same_low l m e = grind (arith, ints)

    by_test : (t : Bool) → int_eq r.low q.low ≡ t → IsStepsFrom r.low (if t then k else 1) n
    by_test true e = subst (λ l. IsStepsFrom l k n) (sym (same_low r.low q.low e)) h
    by_test false e = one_step r.low n

pub bounds_some : (r q : Range) → is_empty_range r ≡ false → is_empty_range (both_bounds r q) ≡ false
bounds_some r q e = by_test (is_empty_range (meet_of r q)) refl
  where
    by_test : (t : Bool) → is_empty_range (meet_of r q) ≡ t → is_empty_range (if t then r else meet_of r q) ≡ false
    by_test true f = e
    by_test false f = f

pub bounds_empty : (r q : Range) → is_empty_range r ≡ true → is_empty_range (both_bounds r q) ≡ true
bounds_empty r q e = of_either IsEmpty (is_empty_range (meet_of r q)) r (meet_of r q) e (meet_empty r q e)
