-- The remainders of numbers of a stride are among those that the definitions have.
use Rattle.std.proofs.Common.{◌≡◌, ◌≢◌, ℕ, zero, suc, ◌<◌, ◌≤◌, ◌/◌, ℤ, pos, negsuc, neg_ℤ, ◌+ℤ◌, ◌-ℤ◌, ◌*ℤ◌, ◌≤ℤ◌, int_div, int_rem, unsigned_abs, Bool, true, false, ◌&&◌, not, if◌then◌else◌, Some, None, refl, ap, sym, subst, ◌∙◌, arith}
use Rattle.std.specs.Ordering.{int_eq}
use Rattle.std.proofs.Math.Nat.{div-mul-le_self}
use Rattle.std.proofs.lemmas.Nat.{le-div}
use Rattle.std.proofs.lemmas.Int.{ints, quot-rem}
use Rattle.c_tree.specs.declared.tree.Op.TheVariants.{Rem}
use Rattle.c_tree.specs.Value.{least}
use Rattle.leaf_domain.specs.declared.range.Range.{Range}
use Rattle.leaf_domain.specs.declared.compare.Compare.{Compare}
use Rattle.leaf_domain.specs.declared.compare.Compare.TheVariants.{Ne}
use Rattle.leaf_domain.specs.Ranges.{Within, IsInInt, empty_range, exact, range_at, arithmetic_range}
use Rattle.leaf_domain.specs.Compares.{holds_between, cut_of}
use Rattle.leaf_domain.proofs.ArithmeticLemmas.{arithmetic_holds}
use Rattle.leaf_domain.proofs.CutLemmas.{cut_holds}
use Rattle.strides.specs.declared.stride.Stride.{Stride}
use Rattle.strides.specs.declared.strided.Strided.{Strided}
use Rattle.strides.specs.Divisors.{gcd, IsMultiple}
use Rattle.strides.specs.Strides.{HasStride, IsReduced, stride_of}
use Rattle.strides.specs.Strided.{Has, strided_in, range_of}
use Rattle.strides.proofs.Multiples.{multiple_same, multiple_zero, multiple_difference, multiple_scaled, neg_times, multiple_from_dvd, multiple_finer, gcd_is}
use Rattle.strides.proofs.StrideLaws.{stride_has, stride_reduced}
use Rattle.congruence_leaf.specs.Remainders.{stride_less, stride_modulo, strided_less, strided_remainders, leaves_neighbours, strided_cut}

pub same_number : (p q : ℤ) → int_eq p q ≡ true → p ≡ q
same_number p q e = grind (arith, ints)

pub empty_in_int : IsInInt empty_range
empty_in_int = record { low = record { low = omega (arith, ints); high = omega (arith, ints) }; high = record { low = omega (arith, ints); high = omega (arith, ints) } }

-- ---- quotients that round toward 0 rise with the dividend
div_mono : (a b k : ℕ) → 0 < k → a ≤ b → a / k ≤ b / k
div_mono a b k p h = le-div (a / k) b k p (omega (arith, div-mul-le_self a k))

quot_mono : (n m : ℤ) (k : ℕ) → 0 < k → n ≤ℤ m → int_div n (pos k) ≤ℤ int_div m (pos k)
quot_mono (pos a) (pos b) k p h = omega (arith, ints, div_mono a b k p (omega (arith, ints)))
quot_mono (pos a) (negsuc b) k p h = absurd (omega (arith, ints))
quot_mono (negsuc a) (pos b) k p h = omega (arith, ints)
quot_mono (negsuc a) (negsuc b) k p h = omega (arith, ints, div_mono (suc b) (suc a) k p (omega (arith, ints)))

pub quot_neg : (n : ℤ) (k : ℕ) → int_div n (negsuc k) ≡ neg_ℤ (int_div n (pos (suc k)))
quot_neg (pos a) k = refl
quot_neg (negsuc a) k = omega (arith, ints)

squeezed : (p q r : ℤ) → p ≤ℤ q → q ≤ℤ r → p ≡ r → q ≡ p
squeezed p q r h k e = omega (arith, ints)

opposite : (p q : ℤ) → neg_ℤ p ≡ neg_ℤ q → p ≡ q
opposite p q e = omega (arith, ints)

pub same_quotient : (l n h m : ℤ) → m ≢ pos 0 → l ≤ℤ n → n ≤ℤ h → int_div l m ≡ int_div h m → int_div n m ≡ int_div l m
same_quotient l n h (pos zero) z p q e = absurd (z refl)
same_quotient l n h (pos (suc k)) z p q e =
    squeezed _ _ _ (quot_mono l n (suc k) (omega arith) p) (quot_mono n h (suc k) (omega arith) q) e
same_quotient l n h (negsuc k) z p q e =
    let f : int_div l (pos (suc k)) ≡ int_div h (pos (suc k)) = opposite _ _ (sym (quot_neg l k) ∙ e ∙ quot_neg h k) in
    quot_neg n k ∙ ap neg_ℤ (squeezed _ _ _ (quot_mono l n (suc k) (omega arith) p) (quot_mono n h (suc k) (omega arith) q) f) ∙ sym (quot_neg l k)

pub rem_from : (n m : ℤ) → int_rem n m ≡ n -ℤ (int_div n m *ℤ m)
rem_from n m = moved (int_div n m *ℤ m) (int_rem n m) n (quot-rem n m)
  where
    moved : (p r n : ℤ) → p +ℤ r ≡ n → r ≡ n -ℤ p
    moved p r n e = omega (arith, ints)

-- ---- strides
pub less_has : (k n : ℤ) (s : Stride) → HasStride s n → HasStride (stride_less k s) (n -ℤ k)
unfolding stride_less
less_has k n s h =
    stride_has s.modulus (s.residue -ℤ k) (n -ℤ k) (multiple_same s.modulus (n -ℤ s.residue) _ (same n k s.residue) h)
  where
    same : (n k c : ℤ) → (n -ℤ k) -ℤ (c -ℤ k) ≡ n -ℤ c
    same n k c = omega (arith, ints)

pub less_reduced : (k : ℤ) (s : Stride) → IsReduced (stride_less k s)
unfolding stride_less
less_reduced k s = stride_reduced s.modulus (s.residue -ℤ k)

-- a number that differs from one of the stride by a multiple of m
modulo_has : (m t k n : ℤ) (s : Stride) → HasStride s n → k ≡ n -ℤ (t *ℤ m) → HasStride (stride_modulo m s) k
unfolding stride_modulo
modulo_has m t k n s h e =
    let g : ℕ = gcd s.modulus (unsigned_abs m) in
    let p : IsMultiple (gcd s.modulus (unsigned_abs m)) (n -ℤ s.residue) = multiple_finer _ s.modulus _ (gcd_is s.modulus (unsigned_abs m)).0 h in
    let q : IsMultiple (gcd s.modulus (unsigned_abs m)) (t *ℤ m) = multiple_scaled _ t m (multiple_from_dvd _ m (gcd_is s.modulus (unsigned_abs m)).1) in
    stride_has (gcd s.modulus (unsigned_abs m)) s.residue k
    (multiple_same _ ((n -ℤ s.residue) -ℤ (t *ℤ m)) _ (same k n s.residue (t *ℤ m) e) (multiple_difference _ _ _ p q))
  where
    same : (k n c d : ℤ) → k ≡ n -ℤ d → k -ℤ c ≡ (n -ℤ c) -ℤ d
    same k n c d e = omega (arith, ints)

pub modulo_reduced : (m : ℤ) (s : Stride) → IsReduced (stride_modulo m s)
unfolding stride_modulo
modulo_reduced m s = stride_reduced (gcd s.modulus (unsigned_abs m)) s.residue

-- the dividend of a remainder that has a stride
pub dividend_has : (m n : ℤ) (s : Stride) → HasStride s (int_rem n m) → HasStride (stride_modulo m s) n
dividend_has m n s h =
    modulo_has m (neg_ℤ (int_div n m)) n (int_rem n m) s h (back (int_div n m *ℤ m) n (int_rem n m) (neg_ℤ (int_div n m) *ℤ m) (quot-rem n m) (neg_times (int_div n m) m))
  where
    back : (p n r z : ℤ) → p +ℤ r ≡ n → z ≡ neg_ℤ p → n ≡ r -ℤ z
    back p n r z e f = omega (arith, ints)

-- ---- remainders
-- a remainder, where it is told
pub rem_told : (n m k : ℤ) → exact Rem n m ≡ Some k → (m ≢ pos 0) × (int_rem n m ≡ k)
rem_told n m k e = by_test (int_eq m (pos 0)) refl e
  where
    by_test : (t : Bool) → int_eq m (pos 0) ≡ t → (if t then None else Some (int_rem n m)) ≡ Some k → (m ≢ pos 0) × (int_rem n m ≡ k)
    by_test true f g = cc
    by_test false f g = let z : m ≢ pos 0 = grind (arith, ints) in (z, cc)

pub remainders_have : (d : Strided) (m n k : ℤ) → exact Rem n m ≡ Some k → (n ≡ least → m ≡ negsuc 0 → ⊥) → Has d n → Has (strided_remainders d m) k
unfolding strided_remainders
remainders_have d m n k e s h = by_test (int_eq (int_div d.low m) (int_div d.high m)) refl
  where
    z : m ≢ pos 0
    z = (rem_told n m k e).0

    f : k ≡ n -ℤ (int_div n m *ℤ m)
    f = sym (rem_told n m k e).1 ∙ rem_from n m

    itself : Within m (range_at m m)
    itself = record { low = omega (arith, ints); high = omega (arith, ints) }

    often : (n p r l k : ℤ) → k ≡ n -ℤ p → p +ℤ r ≡ l → k ≡ n -ℤ (l -ℤ r)
    often n p r l k e g = omega (arith, ints)

    less : (l n h k : ℤ) → l ≤ℤ n → n ≤ℤ h → ((l -ℤ k) ≤ℤ (n -ℤ k)) × ((n -ℤ k) ≤ℤ (h -ℤ k))
    less l n h k p q = (omega (arith, ints), omega (arith, ints))

    by_test : (t : Bool) → int_eq (int_div d.low m) (int_div d.high m) ≡ t → Has (if t then strided_less (d.low -ℤ int_rem d.low m) d else strided_in (arithmetic_range Rem (range_of d) (range_at m m)) (stride_modulo m d.stride)) k
    by_test true g =
        let i : int_div d.low m ≡ int_div d.high m = same_number _ _ g in
        let j : int_div n m ≡ int_div d.low m = same_quotient d.low n d.high m z h.low h.high i in
        let (p, q) = less d.low n d.high (d.low -ℤ int_rem d.low m) h.low h.high in
        let r : Has (strided_less (d.low -ℤ int_rem d.low m) d) (n -ℤ (d.low -ℤ int_rem d.low m)) = record { low = p; high = q; stride = less_has (d.low -ℤ int_rem d.low m) n d.stride h.stride } in
        let u : k ≡ n -ℤ (d.low -ℤ int_rem d.low m) = often n (int_div d.low m *ℤ m) (int_rem d.low m) d.low k (f ∙ ap (λ x. n -ℤ (x *ℤ m)) j) (quot-rem d.low m) in
        subst (λ x. Has (strided_less (d.low -ℤ int_rem d.low m) d) x) (sym u) r
    by_test false g =
        let w : Within k (arithmetic_range Rem (range_of d) (range_at m m)) =
        arithmetic_holds Rem (range_of d) (range_at m m) n m k (record { low = h.low; high = h.high }) itself e (λ x. s) in
        record { low = w.low; high = w.high; stride = modulo_has m (int_div n m) k n d.stride h.stride f }

pub strided_reduced : (d : Strided) (m : ℤ) → IsReduced (strided_remainders d m).stride
unfolding strided_remainders
strided_reduced d m = by_test (int_eq (int_div d.low m) (int_div d.high m))
  where
    by_test : (t : Bool) → IsReduced (if t then strided_less (d.low -ℤ int_rem d.low m) d else strided_in (arithmetic_range Rem (range_of d) (range_at m m)) (stride_modulo m d.stride)).stride
    by_test true = less_reduced (d.low -ℤ int_rem d.low m) d.stride
    by_test false = modulo_reduced m d.stride

-- ---- a comparison
neighbour_stride : (op : Compare) (b : Strided) (r : Range) (n m : ℤ) → leaves_neighbours op (range_of b) r ≡ true → Within n (range_of b) → Within m r → holds_between op n m ≡ true → HasStride (stride_of 2 b.low) n
neighbour_stride Ne b r n m e w v g =
    let (x, y, z) = three (int_eq r.low r.high) (int_eq (b.low +ℤ pos 1) r.low) (int_eq (b.high -ℤ pos 1) r.low) e in
    stride_has 2 b.low n (by_side n b.low b.high r.low r.high m (same_number _ _ x) (same_number _ _ y) (same_number _ _ z) w.low w.high v.low v.high (other n m g))
  where
    three : (a b c : Bool) → (a && (b && c)) ≡ true → (a ≡ true) × (b ≡ true) × (c ≡ true)
    three true true true e = (refl, refl, refl)
    three true true false e = cc
    three true false c e = cc
    three false b c e = cc

    other : (n m : ℤ) → not (int_eq n m) ≡ true → n ≢ m
    other n m e = grind (arith, ints)

    two : (n l : ℤ) → n ≡ l +ℤ pos 2 → n -ℤ l ≡ pos 2
    two n l e = omega (arith, ints)

    none : (n l : ℤ) → n ≡ l → n -ℤ l ≡ pos 0
    none n l e = omega (arith, ints)

    either : (n l h k j m : ℤ) → k ≡ j → l +ℤ pos 1 ≡ k → h -ℤ pos 1 ≡ k → l ≤ℤ n → n ≤ℤ h → k ≤ℤ m → m ≤ℤ j → n ≢ m → n ≢ l → n ≡ l +ℤ pos 2
    either n l h k j m a b c d e f g i o = omega (arith, ints)

    by_side : (n l h k j m : ℤ) → k ≡ j → l +ℤ pos 1 ≡ k → h -ℤ pos 1 ≡ k → l ≤ℤ n → n ≤ℤ h → k ≤ℤ m → m ≤ℤ j → n ≢ m → IsMultiple 2 (n -ℤ l)
    by_side n l h k j m a b c d e f g i = by_test (int_eq n l) refl
      where
        by_test : (t : Bool) → int_eq n l ≡ t → IsMultiple 2 (n -ℤ l)
        by_test true o = multiple_same 2 (pos 0) (n -ℤ l) (none n l (same_number n l o)) (multiple_zero 2)
        by_test false o =
            let u : n ≢ l = grind (arith, ints) in
            record { times = pos 1; value = two n l (either n l h k j m a b c d e f g i u) }
neighbour_stride op b r n m e w v g = cc

pub cut_has : (op : Compare) (b : Strided) (r : Range) (n m : ℤ) → Has b n → Within m r → holds_between op n m ≡ true → Has (strided_cut op b r) n
unfolding strided_cut
cut_has op b r n m h v g = record { low = w.low; high = w.high; stride = by_test (leaves_neighbours op (range_of b) r) refl }
  where
    u : Within n (range_of b)
    u = record { low = h.low; high = h.high }

    w : Within n (cut_of op (range_of b) r)
    w = cut_holds op (range_of b) r n m u v g

    by_test : (t : Bool) → leaves_neighbours op (range_of b) r ≡ t → HasStride (if t then stride_of 2 b.low else b.stride) n
    by_test true e = neighbour_stride op b r n m e u v g
    by_test false e = h.stride
