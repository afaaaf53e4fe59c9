-- The quotients of numbers of a stride are among those that the definitions have.
use Rattle.std.proofs.Common.{◌≡◌, ◌≢◌, ℕ, zero, suc, ◌*◌, ◌/◌, ◌<◌, ℤ, pos, negsuc, neg_ℤ, ◌+ℤ◌, ◌-ℤ◌, ◌*ℤ◌, int_div, unsigned_abs, Bool, true, false, if◌then◌else◌, Some, None, refl, sym, ap, subst, ◌∙◌, arith}
use Rattle.std.specs.Ordering.{int_eq}
use Rattle.std.specs.Int.{◌∣◌}
use Rattle.std.proofs.lemmas.Int.{ints}
use Rattle.std.proofs.Math.Nat.{mul-div_cancel', mul-div_cancel}
use Rattle.std.proofs.Math.IntN.{pos-*ℤ-pos, negsuc-*ℤ-pos}
use Rattle.c_tree.specs.declared.tree.Op.TheVariants.{Div}
use Rattle.leaf_domain.specs.Ranges.{Within, exact, range_at, arithmetic_range}
use Rattle.leaf_domain.proofs.ArithmeticLemmas.{arithmetic_holds}
use Rattle.linear_terms.proofs.Integers.{sum-times, times-times}
use Rattle.strides.specs.declared.stride.Stride.{Stride}
use Rattle.strides.specs.declared.strided.Strided.{Strided}
use Rattle.strides.specs.Divisors.{divides, IsMultiple}
use Rattle.strides.specs.Strides.{HasStride, IsReduced, stride_at, stride_of, distance, lies_in_stride}
use Rattle.strides.specs.Strided.{Has, range_of}
use Rattle.strides.proofs.Multiples.{multiple_same, multiple_neg, neg_times, dvd_from_multiple, divides_true}
use Rattle.strides.proofs.StrideLaws.{stride_has, stride_reduced, residue_has, both, lies_in_has}
use Rattle.congruence_leaf.specs.Quotients.{quotient_stride, strided_quotients}
use Rattle.congruence_leaf.specs.Laws.Remainders.{quot_neg}

-- the quotient of a multiple, times the divisor
div_back : (n : ℤ) (k : ℕ) → IsMultiple (suc k) n → int_div n (pos (suc k)) *ℤ pos (suc k) ≡ n
div_back (pos a) k h =
    let d : suc k ∣ a = dvd_from_multiple (suc k) (pos a) h in
    let e : suc k * (a / suc k) ≡ a = mul-div_cancel' (suc k) d in
    pos-*ℤ-pos (a / suc k) (suc k) ∙ ap pos (omega arith)
div_back (negsuc a) k h =
    let d : suc k ∣ suc a = dvd_from_multiple (suc k) (negsuc a) h in
    let e : suc k * (suc a / suc k) ≡ suc a = mul-div_cancel' (suc k) d in
    let f : (suc a / suc k) * suc k ≡ suc a = omega arith in
    neg_times (pos (suc a / suc k)) (pos (suc k)) ∙ ap neg_ℤ (pos-*ℤ-pos (suc a / suc k) (suc k)) ∙ ap (λ x. neg_ℤ (pos x)) f

-- a factor above 0 is cancelled
cancelled_naturals : (a b k : ℕ) → a * suc k ≡ b * suc k → a ≡ b
cancelled_naturals a b k e =
    let p : 0 < suc k = omega arith in
    sym (mul-div_cancel a p) ∙ ap (λ x. x / suc k) e ∙ mul-div_cancel b p

cancelled : (a b : ℤ) (k : ℕ) → a *ℤ pos (suc k) ≡ b *ℤ pos (suc k) → a ≡ b
cancelled (pos a) (pos b) k e =
    let f : pos (a * suc k) ≡ pos (b * suc k) = sym (pos-*ℤ-pos a (suc k)) ∙ e ∙ pos-*ℤ-pos b (suc k) in
    ap pos (cancelled_naturals a b k (omega (arith, ints)))
cancelled (pos a) (negsuc b) k e = absurd (omega (arith, ints))
cancelled (negsuc a) (pos b) k e = absurd (omega (arith, ints))
cancelled (negsuc a) (negsuc b) k e =
    let f : neg_ℤ (pos (suc a * suc k)) ≡ neg_ℤ (pos (suc b * suc k)) = sym (negsuc-*ℤ-pos a (suc k)) ∙ e ∙ negsuc-*ℤ-pos b (suc k) in
    let g : suc a ≡ suc b = cancelled_naturals (suc a) (suc b) k (omega (arith, ints)) in
    ap negsuc (omega arith)

difference-times : (a b c : ℤ) → (a -ℤ b) *ℤ c ≡ a *ℤ c -ℤ b *ℤ c
difference-times a b c = sum-times a (neg_ℤ b) c ∙ ap (λ x. a *ℤ c +ℤ x) (neg_times b c)

-- the quotients of multiples of a divisor above 0
positive_quotients : (n r : ℤ) (k m : ℕ) → IsMultiple (suc k) n → IsMultiple (suc k) r → suc k ∣ m → IsMultiple m (n -ℤ r) → IsMultiple (m / suc k) (int_div n (pos (suc k)) -ℤ int_div r (pos (suc k)))
positive_quotients n r k m h i d j =
    record { times = j.times; value = cancelled (a -ℤ b) (j.times *ℤ pos (m / suc k)) k (difference-times a b (pos (suc k)) ∙ both ∙ j.value ∙ ap (λ x. j.times *ℤ x) whole ∙ sym (times-times j.times (pos (m / suc k)) (pos (suc k)))) }
  where
    a : ℤ
    a = int_div n (pos (suc k))

    b : ℤ
    b = int_div r (pos (suc k))

    both : a *ℤ pos (suc k) -ℤ b *ℤ pos (suc k) ≡ n -ℤ r
    both = ap (λ x. x -ℤ b *ℤ pos (suc k)) (div_back n k h) ∙ ap (λ x. n -ℤ x) (div_back r k i)

    whole : pos m ≡ pos (m / suc k) *ℤ pos (suc k)
    whole = let e : suc k * (m / suc k) ≡ m = mul-div_cancel' (suc k) d in ap pos (turned (m / suc k) k m e) ∙ sym (pos-*ℤ-pos (m / suc k) (suc k))
      where
        turned : (q k m : ℕ) → suc k * q ≡ m → m ≡ q * suc k
        turned q k m e = omega arith

-- the quotients of multiples of a divisor, which differ by a multiple of a multiple of it
quotient_multiple : (n r m : ℤ) (k : ℕ) → m ≢ pos 0 → IsMultiple (unsigned_abs m) n → IsMultiple (unsigned_abs m) r → unsigned_abs m ∣ k → IsMultiple k (n -ℤ r) → IsMultiple (k / unsigned_abs m) (int_div n m -ℤ int_div r m)
quotient_multiple n r (pos zero) k z h i d j = absurd (z refl)
quotient_multiple n r (pos (suc m)) k z h i d j = positive_quotients n r m k h i d j
quotient_multiple n r (negsuc m) k z h i d j =
    multiple_same _ (neg_ℤ (int_div n (pos (suc m)) -ℤ int_div r (pos (suc m)))) _
    (turned _ _ _ _ (quot_neg n m) (quot_neg r m))
    (multiple_neg _ _ (positive_quotients n r m k h i d j))
  where
    turned : (p q a b : ℤ) → p ≡ neg_ℤ a → q ≡ neg_ℤ b → p -ℤ q ≡ neg_ℤ (a -ℤ b)
    turned p q a b e f = omega (arith, ints)

-- ---- strides
-- the stride of all numbers
all_has : (n : ℤ) → HasStride (stride_of 1 (pos 0)) n
all_has n = stride_has 1 (pos 0) n (record { times = n; value = once n })
  where
    once : (n : ℤ) → n -ℤ pos 0 ≡ n *ℤ pos 1
    once n = omega (arith, ints)

-- a number of a stride that lies in the multiples of m is one
multiple_of : (s : Stride) (m : ℕ) (n : ℤ) → lies_in_stride s (stride_at m (pos 0)) ≡ true → HasStride s n → IsMultiple m n
multiple_of s m n e h = multiple_same m (n -ℤ pos 0) n (itself n) (lies_in_has s (stride_at m (pos 0)) n e h)
  where
    itself : (n : ℤ) → n ≡ n -ℤ pos 0
    itself n = omega (arith, ints)

pub quotient_has : (m n : ℤ) (s : Stride) → m ≢ pos 0 → HasStride s n → HasStride (quotient_stride m s) (int_div n m)
unfolding quotient_stride
quotient_has m n s z h = by_test (lies_in_stride s (stride_at (unsigned_abs m) (pos 0))) refl
  where
    by_test : (t : Bool) → lies_in_stride s (stride_at (unsigned_abs m) (pos 0)) ≡ t → HasStride (if t then stride_of (s.modulus / unsigned_abs m) (int_div s.residue m) else stride_of 1 (pos 0)) (int_div n m)
    by_test true e =
        let d : divides (unsigned_abs m) s.modulus ≡ true = (both (divides (unsigned_abs m) s.modulus) (divides (unsigned_abs m) (distance s (stride_at (unsigned_abs m) (pos 0)))) e).0 in
        stride_has (s.modulus / unsigned_abs m) (int_div s.residue m) (int_div n m)
        (quotient_multiple n s.residue m s.modulus z (multiple_of s (unsigned_abs m) n e h) (multiple_of s (unsigned_abs m) s.residue e (residue_has s s.residue refl)) (divides_true (unsigned_abs m) s.modulus d) h)
    by_test false e = all_has (int_div n m)

pub quotient_reduced : (m : ℤ) (s : Stride) → IsReduced (quotient_stride m s)
unfolding quotient_stride
quotient_reduced m s = by_test (lies_in_stride s (stride_at (unsigned_abs m) (pos 0)))
  where
    by_test : (t : Bool) → IsReduced (if t then stride_of (s.modulus / unsigned_abs m) (int_div s.residue m) else stride_of 1 (pos 0))
    by_test true = stride_reduced (s.modulus / unsigned_abs m) (int_div s.residue m)
    by_test false = stride_reduced 1 (pos 0)

-- ---- quotients
-- a quotient, where it is told
quotient_told : (n m k : ℤ) → exact Div n m ≡ Some k → int_div n m ≡ k
quotient_told n m k e = by_test (int_eq m (pos 0)) e
  where
    by_test : (t : Bool) → (if t then None else Some (int_div n m)) ≡ Some k → int_div n m ≡ k
    by_test true f = cc
    by_test false f = cc

pub quotients_have : (d : Strided) (m n k : ℤ) → m ≢ pos 0 → exact Div n m ≡ Some k → Has d n → Has (strided_quotients d m) k
unfolding strided_quotients
quotients_have d m n k z e h =
    let w : Within k (arithmetic_range Div (range_of d) (range_at m m)) =
    arithmetic_holds Div (range_of d) (range_at m m) n m k (record { low = h.low; high = h.high }) (itself m) e (λ i. cc) in
    record { low = w.low; high = w.high; stride = subst (λ x. HasStride (quotient_stride m d.stride) x) (quotient_told n m k e) (quotient_has m n d.stride z h.stride) }
  where
    itself : (m : ℤ) → Within m (range_at m m)
    itself m = record { low = omega (arith, ints); high = omega (arith, ints) }

pub quotients_reduced : (d : Strided) (m : ℤ) → IsReduced (strided_quotients d m).stride
unfolding strided_quotients
quotients_reduced d m = quotient_reduced m d.stride
