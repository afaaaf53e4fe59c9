-- What the operations on strides keep.
use Rattle.std.proofs.Common.{◌≡◌, ℕ, zero, suc, ◌<◌, nat_eq, ℤ, pos, neg_ℤ, ◌+ℤ◌, ◌-ℤ◌, ◌*ℤ◌, ◌≤ℤ◌, Bool, true, false, ◌&&◌, if◌then◌else◌, refl, sym, ap, subst, ◌∙◌, arith}
use Rattle.std.specs.Int.{int_min, int_max, int_rem_euclid, IsGcd, ◌∣◌}
use Rattle.std.proofs.lemmas.Bool.Decides.{nat_tests}
use Rattle.std.proofs.lemmas.Int.{ints, clamps}
use Rattle.std.proofs.lemmas.Nat.Gcd.{dvd_trans}
use Rattle.std.proofs.Math.IntN.{*ℤ-zero}
use Rattle.strides.specs.declared.stride.Stride.{Stride}
use Rattle.strides.specs.Divisors.{gcd, divides, IsMultiple}
use Rattle.strides.specs.Strides.{stride_at, HasStride, IsReduced, first_from, last_to, stride_of, distance, joined_stride, lies_in_stride}
use Rattle.strides.proofs.Multiples.{multiple_same, multiple_zero, multiple_sum, multiple_neg, multiple_difference, multiple_from_dvd, multiple_finer, gcd_is, divides_true}
use Rattle.strides.proofs.Remainders.{IsRemainder, remainder_is, least_offset}

-- a modulus is 0, or above it
pub by_modulus : {P : Type 0} (m : ℕ) → (nat_eq m 0 ≡ true → m ≡ 0 → P) → (nat_eq m 0 ≡ false → 0 < m → P) → P
by_modulus zero z p = z refl refl
by_modulus (suc m) z p = let e : nat_eq (suc m) 0 ≡ false = grind (arith, nat_tests) in p e (omega arith)

-- with modulus 0 the number is the residue
pub alone : (s : Stride) (n : ℤ) → s.modulus ≡ 0 → HasStride s n → n ≡ s.residue
alone s n z h =
    let e : n -ℤ s.residue ≡ pos 0 = h.value ∙ ap (λ m. h.times *ℤ pos m) z ∙ *ℤ-zero h.times in
    omega (arith, ints)

pub residue_has : (s : Stride) (n : ℤ) → n ≡ s.residue → HasStride s n
residue_has s n e = multiple_same s.modulus (pos 0) (n -ℤ s.residue) (omega (arith, ints)) (multiple_zero s.modulus)

-- ---- the first and the last
abbrev first_by : Bool → ℤ → Stride → ℤ
first_by t l s = if t then int_max l s.residue else l +ℤ int_rem_euclid (s.residue -ℤ l) (pos s.modulus)

abbrev last_by : Bool → ℤ → Stride → ℤ
last_by t h s = if t then int_min h s.residue else h -ℤ int_rem_euclid (h -ℤ s.residue) (pos s.modulus)

pub first_zero : (l : ℤ) (s : Stride) → s.modulus ≡ 0 → first_from l s ≡ int_max l s.residue
unfolding first_from
first_zero l s z = ap (λ t. first_by t l s) (ap (λ m. nat_eq m 0) z)

pub first_some : (l : ℤ) (s : Stride) → 0 < s.modulus → first_from l s ≡ l +ℤ int_rem_euclid (s.residue -ℤ l) (pos s.modulus)
unfolding first_from
first_some l s p = let e : nat_eq s.modulus 0 ≡ false = grind (arith, nat_tests) in ap (λ t. first_by t l s) e

pub last_zero : (h : ℤ) (s : Stride) → s.modulus ≡ 0 → last_to h s ≡ int_min h s.residue
unfolding last_to
last_zero h s z = ap (λ t. last_by t h s) (ap (λ m. nat_eq m 0) z)

pub last_some : (h : ℤ) (s : Stride) → 0 < s.modulus → last_to h s ≡ h -ℤ int_rem_euclid (h -ℤ s.residue) (pos s.modulus)
unfolding last_to
last_some h s p = let e : nat_eq s.modulus 0 ≡ false = grind (arith, nat_tests) in ap (λ t. last_by t h s) e

pub first_above : (l : ℤ) (s : Stride) → l ≤ℤ first_from l s
first_above l s =
    by_modulus s.modulus (λ t z. zero_modulus (first_zero l s z)) (λ t p. some_modulus (first_some l s p) (remainder_is s.modulus (s.residue -ℤ l) p))
  where
    zero_modulus : first_from l s ≡ int_max l s.residue → l ≤ℤ first_from l s
    zero_modulus e = omega (arith, ints, clamps)

    some_modulus : first_from l s ≡ l +ℤ int_rem_euclid (s.residue -ℤ l) (pos s.modulus) → IsRemainder s.modulus (s.residue -ℤ l) (int_rem_euclid (s.residue -ℤ l) (pos s.modulus)) → l ≤ℤ first_from l s
    some_modulus e r = let k : pos 0 ≤ℤ int_rem_euclid (s.residue -ℤ l) (pos s.modulus) = r.low in omega (arith, ints)

pub last_below : (h : ℤ) (s : Stride) → last_to h s ≤ℤ h
last_below h s =
    by_modulus s.modulus (λ t z. zero_modulus (last_zero h s z)) (λ t p. some_modulus (last_some h s p) (remainder_is s.modulus (h -ℤ s.residue) p))
  where
    zero_modulus : last_to h s ≡ int_min h s.residue → last_to h s ≤ℤ h
    zero_modulus e = omega (arith, ints, clamps)

    some_modulus : last_to h s ≡ h -ℤ int_rem_euclid (h -ℤ s.residue) (pos s.modulus) → IsRemainder s.modulus (h -ℤ s.residue) (int_rem_euclid (h -ℤ s.residue) (pos s.modulus)) → last_to h s ≤ℤ h
    some_modulus e r = let k : pos 0 ≤ℤ int_rem_euclid (h -ℤ s.residue) (pos s.modulus) = r.low in omega (arith, ints)

-- no number of the stride from the low on is less
pub first_least : (l n : ℤ) (s : Stride) → l ≤ℤ n → HasStride s n → first_from l s ≤ℤ n
first_least l n s k h =
    by_modulus s.modulus
    (λ t z. zero_modulus (first_zero l s z) (alone s n z h))
    (λ t p. some_modulus (int_rem_euclid (s.residue -ℤ l) (pos s.modulus)) (first_some l s p) (remainder_is s.modulus (s.residue -ℤ l) p))
  where
    zero_modulus : first_from l s ≡ int_max l s.residue → n ≡ s.residue → first_from l s ≤ℤ n
    zero_modulus e f = omega (arith, ints, clamps)

    some_modulus : (r : ℤ) → first_from l s ≡ l +ℤ r → IsRemainder s.modulus (s.residue -ℤ l) r → first_from l s ≤ℤ n
    some_modulus r e i =
        let u : IsMultiple s.modulus ((n -ℤ l) -ℤ r) =
        multiple_same s.modulus ((n -ℤ s.residue) +ℤ ((s.residue -ℤ l) -ℤ r)) ((n -ℤ l) -ℤ r) (omega (arith, ints)) (multiple_sum s.modulus (n -ℤ s.residue) ((s.residue -ℤ l) -ℤ r) h i.rest) in
        let q : r ≤ℤ (n -ℤ l) = least_offset s.modulus r (n -ℤ l) (omega (arith, ints)) i.high u in
        omega (arith, ints)

-- no number of the stride up to the high is greater
pub last_greatest : (h n : ℤ) (s : Stride) → n ≤ℤ h → HasStride s n → n ≤ℤ last_to h s
last_greatest h n s k g =
    by_modulus s.modulus
    (λ t z. zero_modulus (last_zero h s z) (alone s n z g))
    (λ t p. some_modulus (int_rem_euclid (h -ℤ s.residue) (pos s.modulus)) (last_some h s p) (remainder_is s.modulus (h -ℤ s.residue) p))
  where
    zero_modulus : last_to h s ≡ int_min h s.residue → n ≡ s.residue → n ≤ℤ last_to h s
    zero_modulus e f = omega (arith, ints, clamps)

    some_modulus : (r : ℤ) → last_to h s ≡ h -ℤ r → IsRemainder s.modulus (h -ℤ s.residue) r → n ≤ℤ last_to h s
    some_modulus r e i =
        let u : IsMultiple s.modulus ((h -ℤ n) -ℤ r) =
        multiple_same s.modulus (((h -ℤ s.residue) -ℤ r) -ℤ (n -ℤ s.residue)) ((h -ℤ n) -ℤ r) (omega (arith, ints)) (multiple_difference s.modulus ((h -ℤ s.residue) -ℤ r) (n -ℤ s.residue) i.rest g) in
        let q : r ≤ℤ (h -ℤ n) = least_offset s.modulus r (h -ℤ n) (omega (arith, ints)) i.high u in
        omega (arith, ints)

-- where the first is not above the last, both have the stride
pub first_has : (l h : ℤ) (s : Stride) → first_from l s ≤ℤ last_to h s → HasStride s (first_from l s)
first_has l h s k =
    by_modulus s.modulus
    (λ t z. residue_has s (first_from l s) (zero_modulus (first_zero l s z) (last_zero h s z)))
    (λ t p. some_modulus (int_rem_euclid (s.residue -ℤ l) (pos s.modulus)) (first_some l s p) (remainder_is s.modulus (s.residue -ℤ l) p))
  where
    zero_modulus : first_from l s ≡ int_max l s.residue → last_to h s ≡ int_min h s.residue → first_from l s ≡ s.residue
    zero_modulus e f = omega (arith, ints, clamps)

    some_modulus : (r : ℤ) → first_from l s ≡ l +ℤ r → IsRemainder s.modulus (s.residue -ℤ l) r → HasStride s (first_from l s)
    some_modulus r e i = multiple_same s.modulus (neg_ℤ ((s.residue -ℤ l) -ℤ r)) (first_from l s -ℤ s.residue) (omega (arith, ints)) (multiple_neg s.modulus ((s.residue -ℤ l) -ℤ r) i.rest)

pub last_has : (l h : ℤ) (s : Stride) → first_from l s ≤ℤ last_to h s → HasStride s (last_to h s)
last_has l h s k =
    by_modulus s.modulus
    (λ t z. residue_has s (last_to h s) (zero_modulus (first_zero l s z) (last_zero h s z)))
    (λ t p. some_modulus (int_rem_euclid (h -ℤ s.residue) (pos s.modulus)) (last_some h s p) (remainder_is s.modulus (h -ℤ s.residue) p))
  where
    zero_modulus : first_from l s ≡ int_max l s.residue → last_to h s ≡ int_min h s.residue → last_to h s ≡ s.residue
    zero_modulus e f = omega (arith, ints, clamps)

    some_modulus : (r : ℤ) → last_to h s ≡ h -ℤ r → IsRemainder s.modulus (h -ℤ s.residue) r → HasStride s (last_to h s)
    some_modulus r e i = multiple_same s.modulus ((h -ℤ s.residue) -ℤ r) (last_to h s -ℤ s.residue) (omega (arith, ints)) i.rest

-- ---- a stride by a number of it
abbrev residue_by : Bool → ℕ → ℤ → ℤ
residue_by t m c = if t then c else int_rem_euclid c (pos m)

pub stride_zero : (m : ℕ) (c : ℤ) → m ≡ 0 → stride_of m c ≡ stride_at m c
unfolding stride_of
stride_zero m c z = ap (λ t. stride_at m (residue_by t m c)) (ap (λ i. nat_eq i 0) z)

pub stride_some : (m : ℕ) (c : ℤ) → 0 < m → stride_of m c ≡ stride_at m (int_rem_euclid c (pos m))
unfolding stride_of
stride_some m c p = let e : nat_eq m 0 ≡ false = grind (arith, nat_tests) in ap (λ t. stride_at m (residue_by t m c)) e

pub stride_modulus : (m : ℕ) (c : ℤ) → (stride_of m c).modulus ≡ m
unfolding stride_of
stride_modulus m c = refl

pub stride_has : (m : ℕ) (c n : ℤ) → IsMultiple m (n -ℤ c) → HasStride (stride_of m c) n
stride_has m c n h =
    by_modulus m
    (λ t z. subst (λ s. HasStride s n) (sym (stride_zero m c z)) h)
    (λ t p. subst (λ s. HasStride s n) (sym (stride_some m c p)) (moved (int_rem_euclid c (pos m)) (remainder_is m c p)))
  where
    moved : (r : ℤ) → IsRemainder m c r → IsMultiple m (n -ℤ r)
    moved r i = multiple_same m ((n -ℤ c) +ℤ (c -ℤ r)) (n -ℤ r) (omega (arith, ints)) (multiple_sum m (n -ℤ c) (c -ℤ r) h i.rest)

pub stride_reduced : (m : ℕ) (c : ℤ) → IsReduced (stride_of m c)
stride_reduced m c =
    by_modulus m
    (λ t z. subst IsReduced (sym (stride_zero m c z)) (record { low = λ p. absurd (omega arith); high = λ p. absurd (omega arith) }))
    (λ t p. subst IsReduced (sym (stride_some m c p)) (record { low = λ q. (remainder_is m c p).low; high = λ q. (remainder_is m c p).high }))

-- ---- joined strides
pub record Divides3 (g : ℕ) (s t : Stride) : Type 0 where
  pub first : g ∣ s.modulus
  pub second : g ∣ t.modulus
  pub apart : g ∣ distance s t

pub joined_divides : (s t : Stride) → Divides3 (joined_stride s t).modulus s t
joined_divides s t =
    let d : IsGcd (gcd s.modulus t.modulus) (distance s t) (gcd (gcd s.modulus t.modulus) (distance s t)) = gcd_is (gcd s.modulus t.modulus) (distance s t) in
    let e : IsGcd s.modulus t.modulus (gcd s.modulus t.modulus) = gcd_is s.modulus t.modulus in
    subst (λ k. Divides3 k s t) (sym (stride_modulus (gcd (gcd s.modulus t.modulus) (distance s t)) s.residue)) (record { first = dvd_trans _ d.0 e.0; second = dvd_trans _ d.0 e.1; apart = d.1 })

pub joined_first : (s t : Stride) (n : ℤ) → HasStride s n → HasStride (joined_stride s t) n
joined_first s t n h =
    let d : Divides3 (joined_stride s t).modulus s t = joined_divides s t in
    let e : (joined_stride s t).modulus ≡ gcd (gcd s.modulus t.modulus) (distance s t) = stride_modulus _ s.residue in
    stride_has (gcd (gcd s.modulus t.modulus) (distance s t)) s.residue n (multiple_finer _ s.modulus _ (subst (λ k. k ∣ s.modulus) e d.first) h)

pub joined_second : (s t : Stride) (n : ℤ) → HasStride t n → HasStride (joined_stride s t) n
joined_second s t n h =
    let d : Divides3 (joined_stride s t).modulus s t = joined_divides s t in
    let e : (joined_stride s t).modulus ≡ gcd (gcd s.modulus t.modulus) (distance s t) = stride_modulus _ s.residue in
    let p : IsMultiple (gcd (gcd s.modulus t.modulus) (distance s t)) (n -ℤ t.residue) = multiple_finer _ t.modulus _ (subst (λ k. k ∣ t.modulus) e d.second) h in
    let q : IsMultiple (gcd (gcd s.modulus t.modulus) (distance s t)) (s.residue -ℤ t.residue) = multiple_from_dvd _ _ (subst (λ k. k ∣ distance s t) e d.apart) in
    stride_has (gcd (gcd s.modulus t.modulus) (distance s t)) s.residue n
    (multiple_same _ ((n -ℤ t.residue) -ℤ (s.residue -ℤ t.residue)) (n -ℤ s.residue) (omega (arith, ints)) (multiple_difference _ (n -ℤ t.residue) (s.residue -ℤ t.residue) p q))

-- each number of a stride that lies in another is one of that
pub both : (a b : Bool) → (a && b) ≡ true → (a ≡ true) × (b ≡ true)
both true b f = (refl, f)
both false b f = cc

pub lies_in_has : (s t : Stride) (n : ℤ) → lies_in_stride s t ≡ true → HasStride s n → HasStride t n
lies_in_has s t n e h =
    let (p, q) = both (divides t.modulus s.modulus) (divides t.modulus (distance s t)) e in
    let u : IsMultiple t.modulus (n -ℤ s.residue) = multiple_finer t.modulus s.modulus _ (divides_true t.modulus s.modulus p) h in
    let w : IsMultiple t.modulus (s.residue -ℤ t.residue) = multiple_from_dvd t.modulus (s.residue -ℤ t.residue) (divides_true t.modulus (distance s t) q) in
    multiple_same t.modulus ((n -ℤ s.residue) +ℤ (s.residue -ℤ t.residue)) (n -ℤ t.residue) (omega (arith, ints)) (multiple_sum t.modulus _ _ u w)
