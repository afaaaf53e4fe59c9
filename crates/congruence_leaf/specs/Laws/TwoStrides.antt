-- The numbers that have two strides are just those of the stride that is found for both.
use Rattle.std.proofs.Common.{◌≡◌, ℕ, zero, suc, ◌+◌, ◌*◌, ◌/◌, ◌%◌, ◌<◌, ◌≤◌, nat_eq, ℤ, pos, ◌+ℤ◌, ◌-ℤ◌, ◌*ℤ◌, ◌≤ℤ◌, ◌<ℤ◌, unsigned_abs, Bool, true, false, ◌&&◌, if◌then◌else◌, Option, Some, None, refl, ap, sym, subst, ◌∙◌, arith}
use Rattle.std.specs.Int.{int_rem_euclid, ◌∣◌}
use Rattle.std.proofs.lemmas.Bool.Decides.{nat_tests}
use Rattle.std.proofs.lemmas.Int.{ints}
use Rattle.std.proofs.Math.Nat.{div-add-mod, mod-lt, mul_comm, mul-div_cancel', mul-dvd-mul_left, mul-dvd-mul_right, dvd_of_mul-dvd-mul_left, dvd-mul_right}
use Rattle.std.proofs.lemmas.Nat.Gcd.{dvd-zero}
use Rattle.std.proofs.Math.IntN.{pos-*ℤ-pos, *ℤ_comm}
use Rattle.linear_terms.proofs.Integers.{sum-times}
use Rattle.strides.specs.declared.stride.Stride.{Stride}
use Rattle.strides.specs.declared.strided.Strided.{Strided}
use Rattle.strides.specs.Divisors.{gcd, euclid, divides, IsMultiple}
use Rattle.strides.specs.Strides.{HasStride, IsReduced, stride_at, stride_of, lies_in_stride, distance}
use Rattle.strides.specs.Strided.{Has}
use Rattle.strides.proofs.Multiples.{multiple_same, multiple_zero, multiple_sum, multiple_difference, multiple_scaled, multiple_finer, multiple_from_dvd, dvd_from_multiple, gcd_is, divides_true, divides_from}
use Rattle.strides.proofs.Remainders.{IsRemainder, remainder_is, least_offset}
use Rattle.strides.proofs.StrideLaws.{by_modulus, alone, stride_some, stride_modulus, stride_has, stride_reduced, lies_in_has}
use Rattle.congruence_leaf.specs.TwoStrides.{common_multiple, is_of, first_of, common_number, stride_through, common_stride, part_by, strided_met}

-- ---- the test
pub is_of_has : (s : Stride) (n : ℤ) → is_of s n ≡ true → HasStride s n
is_of_has s n e = multiple_from_dvd s.modulus (n -ℤ s.residue) (divides_true s.modulus (unsigned_abs (n -ℤ s.residue)) e)

pub has_is_of : (s : Stride) (n : ℤ) → HasStride s n → is_of s n ≡ true
has_is_of s n h = divides_from s.modulus (unsigned_abs (n -ℤ s.residue)) (dvd_from_multiple s.modulus (n -ℤ s.residue) h)

-- ---- the search
-- a number with the stride, some steps from another
pub record IsReached (n : ℤ) (m : ℕ) (t : Stride) (c : ℤ) : Type 0 where
  pub away : IsMultiple m (c -ℤ n)
  pub has : HasStride t c

there : (n : ℤ) (m : ℕ) (t : Stride) → HasStride t n → IsReached n m t n
there n m t h = record { away = multiple_same m (pos 0) (n -ℤ n) (omega (arith, ints)) (multiple_zero m); has = h }

farther : (n c : ℤ) (m : ℕ) (t : Stride) → IsReached (n +ℤ pos m) m t c → IsReached n m t c
farther n c m t r = record {
  away = multiple_same m ((c -ℤ (n +ℤ pos m)) +ℤ pos m) (c -ℤ n) (omega (arith, ints)) (multiple_sum m _ _ r.away (itself m));
  has = r.has;
}
  where
    itself : (m : ℕ) → IsMultiple m (pos m)
    itself m = record { times = pos 1; value = omega (arith, ints) }

-- what is found is such a number
pub found_is : (k : ℕ) (n : ℤ) (m : ℕ) (t : Stride) (c : ℤ) → first_of k n m t ≡ Some c → IsReached n m t c
found_is zero n m t c e = cc
found_is (suc k) n m t c e = by_test (is_of t n) refl (λ g. found_is k (n +ℤ pos m) m t c g) e
  where
    by_test : (b : Bool) → is_of t n ≡ b → (first_of k (n +ℤ pos m) m t ≡ Some c → IsReached (n +ℤ pos m) m t c) → (if b then Some n else first_of k (n +ℤ pos m) m t) ≡ Some c → IsReached n m t c
    by_test true f rest g = let i : n ≡ c = cc in subst (λ x. IsReached n m t x) i (there n m t (is_of_has t n f))
    by_test false f rest g = farther n c m t (rest g)

-- where one of so many numbers has the stride, some number is found
finds : (P : Option ℤ → Type 0) (k i : ℕ) (n : ℤ) (m : ℕ) (t : Stride) → i < k → HasStride t (n +ℤ pos (i * m)) → ((c : ℤ) → IsReached n m t c → P (Some c)) → P (first_of k n m t)
finds P zero i n m t l h q = absurd (omega arith)
finds P (suc k) zero n m t l h q = by_test (is_of t n) refl
  where
    here : n +ℤ pos (0 * m) ≡ n
    here = omega (arith, ints)

    by_test : (b : Bool) → is_of t n ≡ b → P (if b then Some n else first_of k (n +ℤ pos m) m t)
    by_test true f = q n (there n m t (is_of_has t n f))
    by_test false f = let e : is_of t n ≡ true = has_is_of t n (subst (λ x. HasStride t x) here h) in cc
finds P (suc k) (suc j) n m t l h q =
    by_test (is_of t n) refl (finds P k j (n +ℤ pos m) m t (omega arith) (subst (λ x. HasStride t x) next h) (λ c r. q c (farther n c m t r)))
  where
    next : n +ℤ pos (suc j * m) ≡ (n +ℤ pos m) +ℤ pos (j * m)
    next = omega (arith, ints)

    by_test : (b : Bool) → is_of t n ≡ b → P (first_of k (n +ℤ pos m) m t) → P (if b then Some n else first_of k (n +ℤ pos m) m t)
    by_test true f rest = q n (there n m t (is_of_has t n f))
    by_test false f rest = rest

-- ---- a number of both
-- some number of both, where something is found
pub common_by : (P : Option ℤ → Type 0) (s t : Stride) → P None → ((c : ℤ) → HasStride s c → HasStride t c → P (Some c)) → P (common_number s t)
unfolding common_number
common_by P s t z q = by_found (first_of t.modulus s.residue s.modulus t) refl
  where
    by_found : (o : Option ℤ) → first_of t.modulus s.residue s.modulus t ≡ o → P o
    by_found None e = z
    by_found (Some c) e = let r = found_is t.modulus s.residue s.modulus t c e in q c r.away r.has

-- where there is one, one is found
pub common_found : (P : Option ℤ → Type 0) (s t : Stride) (n : ℤ) → 0 < t.modulus → HasStride s n → HasStride t n → ((c : ℤ) → HasStride s c → HasStride t c → P (Some c)) → P (common_number s t)
unfolding common_number
common_found P s t n p h k q = near (remainder_is t.modulus h.times p)
  where
    r : ℤ
    r = int_rem_euclid h.times (pos t.modulus)

    near : IsRemainder t.modulus h.times r → P (first_of t.modulus s.residue s.modulus t)
    near w =
        let l : pos 0 ≤ℤ r = w.low in
        let u : r <ℤ pos t.modulus = w.high in
        let e : pos (unsigned_abs r) ≡ r = omega (arith, ints) in
        finds P t.modulus (unsigned_abs r) s.residue s.modulus t (omega (arith, ints)) (steps (unsigned_abs r) e w.rest) (λ c i. q c i.away i.has)
      where
        moved : (n c d a b x y : ℤ) → n -ℤ c ≡ a → x ≡ b → a -ℤ b ≡ y → (c +ℤ x) -ℤ d ≡ (n -ℤ d) -ℤ y
        moved n c d a b x y e f g = omega (arith, ints)

        less : (a b c : ℤ) → (a -ℤ b) *ℤ c ≡ a *ℤ c -ℤ b *ℤ c
        less a b c = let e : ((a -ℤ b) +ℤ b) *ℤ c ≡ (a -ℤ b) *ℤ c +ℤ b *ℤ c = sum-times (a -ℤ b) b c in let f : (a -ℤ b) +ℤ b ≡ a = omega (arith, ints) in subtracted ((a -ℤ b) *ℤ c) (b *ℤ c) (a *ℤ c) (ap (λ x. x *ℤ c) (sym f) ∙ e)
          where
            subtracted : (x y z : ℤ) → z ≡ x +ℤ y → x ≡ z -ℤ y
            subtracted x y z e = omega (arith, ints)

        steps : (i : ℕ) → pos i ≡ r → IsMultiple t.modulus (h.times -ℤ r) → HasStride t (s.residue +ℤ pos (i * s.modulus))
        steps i e v =
            let f : pos (i * s.modulus) ≡ r *ℤ pos s.modulus = sym (pos-*ℤ-pos i s.modulus) ∙ ap (λ x. x *ℤ pos s.modulus) e in
            let g : h.times *ℤ pos s.modulus -ℤ r *ℤ pos s.modulus ≡ (h.times -ℤ r) *ℤ pos s.modulus = sym (less h.times r (pos s.modulus)) in
            let j : IsMultiple t.modulus ((h.times -ℤ r) *ℤ pos s.modulus) =
            multiple_same t.modulus (pos s.modulus *ℤ (h.times -ℤ r)) _ (*ℤ_comm (h.times -ℤ r) (pos s.modulus)) (multiple_scaled t.modulus (pos s.modulus) (h.times -ℤ r) v) in
            multiple_same t.modulus ((n -ℤ t.residue) -ℤ ((h.times -ℤ r) *ℤ pos s.modulus)) _
            (moved n s.residue t.residue (h.times *ℤ pos s.modulus) (r *ℤ pos s.modulus) (pos (i * s.modulus)) ((h.times -ℤ r) *ℤ pos s.modulus) h.value f g)
            (multiple_difference t.modulus _ _ k j)

-- ---- the least common multiple
scaled_euclid : (n a b d k : ℕ) → b ≤ n → IsMultiple d (pos (a * k)) → IsMultiple d (pos (b * k)) → IsMultiple d (pos (euclid n a b * k))
scaled_euclid zero a b d k l h g = h
scaled_euclid (suc n) a b d k l h g = by_test (nat_eq b 0) refl (λ q r. scaled_euclid n b (a % b) d k q g r)
  where
    rest : 0 < b → IsMultiple d (pos ((a % b) * k))
    rest p =
        let e : b * (a / b) + a % b ≡ a = div-add-mod a b in
        let f : (b * (a / b) + a % b) * k ≡ a * k = ap (λ x. x * k) e in
        let u : IsMultiple d (pos (a / b) *ℤ pos (b * k)) = multiple_scaled d (pos (a / b)) (pos (b * k)) g in
        let w : pos (a / b) *ℤ pos (b * k) ≡ pos ((a / b) * (b * k)) = pos-*ℤ-pos (a / b) (b * k) in
        multiple_same d (pos (a * k) -ℤ (pos (a / b) *ℤ pos (b * k))) _ (apart ((a % b) * k) ((a / b) * (b * k)) (a * k) _ (omega arith) w) (multiple_difference d _ _ h u)
      where
        apart : (x y z : ℕ) (w : ℤ) → z ≡ x + y → w ≡ pos y → pos x ≡ pos z -ℤ w
        apart x y z w e f = omega (arith, ints)

    by_test : (t : Bool) → nat_eq b 0 ≡ t → (a % b ≤ n → IsMultiple d (pos ((a % b) * k)) → IsMultiple d (pos (euclid n b (a % b) * k))) → IsMultiple d (pos ((if t then a else euclid n b (a % b)) * k))
    by_test true e lesser = h
    by_test false e lesser =
        let p : 0 < b = grind (arith, nat_tests) in
        let q : a % b < b = mod-lt a p in
        lesser (omega arith) (rest p)

gcd_scaled : (a b d k : ℕ) → IsMultiple d (pos (a * k)) → IsMultiple d (pos (b * k)) → IsMultiple d (pos (gcd a b * k))
unfolding gcd
gcd_scaled a b d k h g = scaled_euclid b a b d k (omega arith) h g

-- what is a multiple of both is one of the least common multiple
pub multiple_common : (m n : ℕ) (z : ℤ) → 0 < n → IsMultiple m z → IsMultiple n z → IsMultiple (common_multiple m n) z
unfolding common_multiple
multiple_common m n z p h k = multiple_from_dvd (m * (n / gcd m n)) z (by_divisor (gcd m n) (gcd_is m n).1 scaled)
  where
    i : ℕ
    i = unsigned_abs z

    first : (m * n) ∣ (m * i)
    first = mul-dvd-mul_left n m (dvd_from_multiple n z k)

    second : (n * m) ∣ (n * i)
    second = mul-dvd-mul_left m n (dvd_from_multiple m z h)

    turned : (m * n) ∣ (n * i)
    turned = subst (λ x. x ∣ (n * i)) (mul_comm n m) second

    scaled : (m * n) ∣ (gcd m n * i)
    scaled = dvd_from_multiple (m * n) (pos (gcd m n * i)) (gcd_scaled m n (m * n) i (multiple_from_dvd (m * n) (pos (m * i)) first) (multiple_from_dvd (m * n) (pos (n * i)) turned))

    by_divisor : (g : ℕ) → g ∣ n → (m * n) ∣ (g * i) → (m * (n / g)) ∣ i
    by_divisor g e w =
        let f : g * (n / g) ≡ n = mul-div_cancel' g e in
        dvd_of_mul-dvd-mul_left (m * (n / g)) (some g (n / g) f) (subst (λ x. x ∣ (g * i)) (grown g (n / g) f) w)
      where
        grown : (g q : ℕ) → g * q ≡ n → m * n ≡ g * (m * q)
        grown g q f = let u : m * (g * q) ≡ m * n = ap (λ x. m * x) f in omega arith

        some : (g q : ℕ) → g * q ≡ n → 0 < g
        some zero q e = omega arith
        some (suc g) q e = omega arith

common_above : (m n : ℕ) → m ∣ common_multiple m n
unfolding common_multiple
common_above m n = dvd-mul_right m (n / gcd m n)

common_divides : (m n : ℕ) → n ∣ common_multiple m n
unfolding common_multiple
common_divides m n = by_divisor (gcd m n) (gcd_is m n).0 (gcd_is m n).1
  where
    by_divisor : (g : ℕ) → g ∣ m → g ∣ n → n ∣ (m * (n / g))
    by_divisor g e f =
        let u : g * (n / g) ≡ n = mul-div_cancel' g f in
        subst (λ x. x ∣ (m * (n / g))) u (mul-dvd-mul_right g e (n / g))

-- ---- the stride through a number of both
-- two numbers that differ by a multiple of the modulus have one stride
stride_same : (m : ℕ) (c n : ℤ) → IsMultiple m (c -ℤ n) → stride_of m c ≡ stride_of m n
stride_same m c n h =
    by_modulus m
    (λ t z. ap (stride_of m) (alone (stride_at m n) c z h))
    (λ t p. stride_some m c p ∙ ap (stride_at m) (same_rest (remainder_is m c p) (remainder_is m n p)) ∙ sym (stride_some m n p))
  where
    r : ℤ
    r = int_rem_euclid c (pos m)

    q : ℤ
    q = int_rem_euclid n (pos m)

    difference : (c n r q : ℤ) → r -ℤ q ≡ ((n -ℤ q) -ℤ (c -ℤ r)) +ℤ (c -ℤ n)
    difference c n r q = omega (arith, ints)

    opposite : (c n r q : ℤ) → q -ℤ r ≡ ((c -ℤ r) -ℤ (n -ℤ q)) -ℤ (c -ℤ n)
    opposite c n r q = omega (arith, ints)

    both : (r q : ℤ) → r ≤ℤ q → q ≤ℤ r → r ≡ q
    both r q k l = omega (arith, ints)

    same_rest : IsRemainder m c r → IsRemainder m n q → r ≡ q
    same_rest i j =
        let d : IsMultiple m (r -ℤ q) = multiple_same m _ (r -ℤ q) (difference c n r q) (multiple_sum m _ _ (multiple_difference m _ _ j.rest i.rest) h) in
        let e : IsMultiple m (q -ℤ r) = multiple_same m _ (q -ℤ r) (opposite c n r q) (multiple_difference m _ _ (multiple_difference m _ _ i.rest j.rest) h) in
        both r q (least_offset m r q j.low i.high e) (least_offset m q r i.low j.high d)

away : (s : Stride) (c n : ℤ) → HasStride s c → HasStride s n → IsMultiple s.modulus (c -ℤ n)
away s c n h k = multiple_same s.modulus ((c -ℤ s.residue) -ℤ (n -ℤ s.residue)) (c -ℤ n) (omega (arith, ints)) (multiple_difference s.modulus _ _ h k)

through_same : (s t : Stride) (c n : ℤ) → 0 < t.modulus → HasStride s c → HasStride t c → HasStride s n → HasStride t n → stride_through s t (Some c) ≡ stride_through s t (Some n)
through_same s t c n p h k i j =
    ap Some (stride_same (common_multiple s.modulus t.modulus) c n (multiple_common s.modulus t.modulus (c -ℤ n) p (away s c n h i) (away t c n k j)))

-- whichever number of both is found, the stride is the same
pub through_found : (s t : Stride) (n : ℤ) → 0 < t.modulus → HasStride s n → HasStride t n → stride_through s t (Some n) ≡ stride_through s t (common_number s t)
through_found s t n p h k =
    common_found (λ o. stride_through s t (Some n) ≡ stride_through s t o) s t n p h k (λ c i j. through_same s t n c p h k i j)

-- ---- both strides
number_has : (m : ℕ) (n : ℤ) → HasStride (stride_of m n) n
number_has m n = stride_has m n n (multiple_same m (pos 0) (n -ℤ n) (omega (arith, ints)) (multiple_zero m))

-- the numbers of the stride through a number of both
through_has : (s t : Stride) (c n : ℤ) → HasStride s c → HasStride t c → HasStride (stride_of (common_multiple s.modulus t.modulus) c) n → HasStride s n × HasStride t n
through_has s t c n h k i =
    let d : IsMultiple (common_multiple s.modulus t.modulus) (n -ℤ c) = subst (λ k. IsMultiple k (n -ℤ c)) (stride_modulus (common_multiple s.modulus t.modulus) c) (away (stride_of (common_multiple s.modulus t.modulus) c) n c i (number_has (common_multiple s.modulus t.modulus) c)) in
    (by_difference s n c (multiple_finer s.modulus _ (n -ℤ c) (common_above s.modulus t.modulus) d) h, by_difference t n c (multiple_finer t.modulus _ (n -ℤ c) (common_divides s.modulus t.modulus) d) k)
  where
    by_difference : (s : Stride) (n c : ℤ) → IsMultiple s.modulus (n -ℤ c) → HasStride s c → HasStride s n
    by_difference s n c d h = multiple_same s.modulus ((n -ℤ c) +ℤ (c -ℤ s.residue)) (n -ℤ s.residue) (omega (arith, ints)) (multiple_sum s.modulus _ _ d h)

-- what holds of the stride of both, by how it was found
by_stride : (P : Option Stride → Type 0) (s t : Stride) → (lies_in_stride s t ≡ true → P (Some s)) → (lies_in_stride t s ≡ true → P (Some t))
    → (lies_in_stride s t ≡ false → lies_in_stride t s ≡ false → P (stride_through s t (common_number s t))) → P (common_stride s t)
unfolding common_stride
by_stride P s t first second other = by_first (lies_in_stride s t) refl
  where
    by_second : (b : Bool) → lies_in_stride s t ≡ false → lies_in_stride t s ≡ b → P (if b then Some t else stride_through s t (common_number s t))
    by_second true e f = second f
    by_second false e f = other e f

    by_first : (a : Bool) → lies_in_stride s t ≡ a → P (if a then Some s else (if lies_in_stride t s then Some t else stride_through s t (common_number s t)))
    by_first true e = first e
    by_first false e = by_second (lies_in_stride t s) e refl

-- a stride of one number that has another stride lies in that
single_lies : (s t : Stride) (n : ℤ) → s.modulus ≡ 0 → HasStride s n → HasStride t n → lies_in_stride s t ≡ true
single_lies s t n z h k =
    let e : n ≡ s.residue = alone s n z h in
    let f : divides t.modulus s.modulus ≡ true = divides_from t.modulus s.modulus (subst (λ m. t.modulus ∣ m) (sym z) (dvd-zero t.modulus)) in
    let g : divides t.modulus (distance s t) ≡ true = divides_from t.modulus (distance s t) (dvd_from_multiple t.modulus (s.residue -ℤ t.residue) (subst (λ x. IsMultiple t.modulus (x -ℤ t.residue)) e k)) in
    ap (λ x. x && divides t.modulus (distance s t)) f ∙ g

-- a number of both has the stride of both
pub common_has : (P : Option Stride → Type 0) (s t : Stride) (n : ℤ) → HasStride s n → HasStride t n → ((u : Stride) → HasStride u n → P (Some u)) → P (common_stride s t)
common_has P s t n h k q = by_stride P s t (λ e. q s h) (λ e. q t k) (λ e f. by_modulus t.modulus (λ i z. absurd (no_single f (single_lies t s n z k h))) (λ i p. found p))
  where
    no_single : lies_in_stride t s ≡ false → lies_in_stride t s ≡ true → ⊥
    no_single e f = cc

    found : 0 < t.modulus → P (stride_through s t (common_number s t))
    found p =
        subst P (through_found s t n p h k) (q (stride_of (common_multiple s.modulus t.modulus) n) (number_has (common_multiple s.modulus t.modulus) n))

-- and what has that has both
pub common_only : (s t : Stride) (n : ℤ) (P : Option Stride → Type 0) → P None → ((u : Stride) → (HasStride u n → HasStride s n × HasStride t n) → P (Some u)) → P (common_stride s t)
common_only s t n P z q =
    by_stride P s t
    (λ e. q s (λ h. (h, lies_in_has s t n e h)))
    (λ e. q t (λ h. (lies_in_has t s n e h, h)))
    (λ e f. common_by (λ o. P (stride_through s t o)) s t z (λ c h k. q (stride_of (common_multiple s.modulus t.modulus) c) (through_has s t c n h k)))

pub common_reduced : (s t : Stride) (P : Option Stride → Type 0) → IsReduced s → IsReduced t → P None → ((u : Stride) → IsReduced u → P (Some u)) → P (common_stride s t)
common_reduced s t P h k z q =
    by_stride P s t
    (λ e. q s h)
    (λ e. q t k)
    (λ e f. common_by (λ o. P (stride_through s t o)) s t z (λ c i j. q (stride_of (common_multiple s.modulus t.modulus) c) (stride_reduced (common_multiple s.modulus t.modulus) c)))

-- ---- the numbers that have a stride too
pub met_has : (b : Strided) (t : Stride) (n : ℤ) → Has b n → HasStride t n → Has (strided_met b t) n
unfolding strided_met
met_has b t n h k =
    common_has (λ o. Has (part_by b o) n) b.stride t n h.stride k (λ u i. record { low = h.low; high = h.high; stride = i })

pub met_only : (b : Strided) (t : Stride) (n : ℤ) → Has (strided_met b t) n → Has b n × HasStride t n
unfolding strided_met
met_only b t n =
    common_only b.stride t n (λ o. Has (part_by b o) n → Has b n × HasStride t n)
    (λ h. none h.low h.high)
    (λ u i h. (record { low = h.low; high = h.high; stride = (i h.stride).0 }, (i h.stride).1))
  where
    none : pos 1 ≤ℤ n → n ≤ℤ pos 0 → {Q : Type 0} → Q
    none p q = absurd (omega (arith, ints))
