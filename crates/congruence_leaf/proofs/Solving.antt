-- A number that solves a congruence: by Euclid's algorithm, from one that solves a lesser congruence.
use Rattle.std.proofs.Common.{◌≡◌, ℕ, ◌+◌, ◌-◌, ◌*◌, ◌/◌, ◌%◌, ◌<◌, ◌≤◌, nat_eq, ℤ, pos, ◌+ℤ◌, ◌-ℤ◌, ◌*ℤ◌, ◌≤ℤ◌, ◌<ℤ◌, unsigned_abs, to_z, of_z, Bool, true, false, if◌then◌else◌, Some, None, refl, ap, sym, subst, ◌∙◌, arith}
use Rattle.std.specs.Int.{int_rem_euclid, w128, IsGcd, ◌∣◌}
use Rattle.std.proofs.lemmas.Bool.Decides.{nat_tests}
use Rattle.std.proofs.lemmas.Int.{ints}
use Rattle.std.proofs.Math.Nat.{div-add-mod, mod-lt, mod-eq_of_lt, mod_self, mul-div_cancel', mul-le-mul, div-lt_iff_lt-mul}
use Rattle.std.proofs.Math.IntN.{pos-*ℤ-pos, *ℤ_comm, zero-*ℤ}
use Rattle.linear_terms.proofs.Integers.{times-sum, times-times}
use Rattle.std.proofs.lemmas.Nat.Gcd.{le_of_dvd}
use Rattle.strides.specs.declared.stride.Stride.{Stride}
use Rattle.strides.specs.Divisors.{divides, IsMultiple}
use Rattle.strides.specs.Strides.{HasStride}
use Rattle.strides.proofs.Remainders.{IsRemainder, remainder_is}
use Rattle.strides.proofs.StrideLaws.{by_modulus}
use Rattle.strides.proofs.Multiples.{multiple_same, multiple_sum, multiple_difference, dvd_from_multiple, gcd_same, zero_from_dvd}
use Rattle.congruence_leaf.specs.TwoStrides.{HasFewBits, IsSolution, common_multiple, is_of, common_number, stride_through}
use Rattle.congruence_leaf.specs.Laws.TwoStrides.{is_of_has, has_is_of, common_by, through_found}

-- with the factor 0 each number is as good
pub solved_zero : (a b m : ℕ) (x : ℤ) → a ≡ 0 → IsSolution a b m x → IsSolution a b m (pos 0)
solved_zero a b m x e h =
    multiple_same m ((pos a *ℤ x) -ℤ pos b) ((pos a *ℤ pos 0) -ℤ pos b) (ap (λ k. (pos k *ℤ pos 0) -ℤ pos b) e ∙ ap (λ z. z -ℤ pos b) (zero-*ℤ (pos 0) ∙ sym (zero-*ℤ x)) ∙ ap (λ k. (pos k *ℤ x) -ℤ pos b) (sym e)) h

-- what is left of the negated number
abbrev pub opposite : ℕ → ℕ → ℕ
opposite b a = (a - b % a) % a

pub opposite_below : (a b : ℕ) → 0 < a → opposite b a < a
opposite_below a b p = mod-lt (a - b % a) p

opposite_sum : (a b : ℕ) → 0 < a → IsMultiple a (pos (b + opposite b a))
opposite_sum a b p = by_rest (nat_eq (b % a) 0) refl
  where
    e : a * (b / a) + b % a ≡ b
    e = div-add-mod b a

    l : b % a < a
    l = mod-lt b p

    of_times : (n k : ℕ) → n ≡ k * a → IsMultiple a (pos n)
    of_times n k f = record { times = pos k; value = ap pos f ∙ sym (pos-*ℤ-pos k a) }

    by_rest : (t : Bool) → nat_eq (b % a) 0 ≡ t → IsMultiple a (pos (b + opposite b a))
    by_rest true f =
        let z : b % a ≡ 0 = grind (arith, nat_tests) in
        let u : a - b % a ≡ a = omega arith in
        let w : opposite b a ≡ 0 = ap (λ n. n % a) u ∙ mod_self a in
        of_times (b + opposite b a) (b / a) (omega arith)
    by_rest false f =
        let z : 0 < b % a = grind (arith, nat_tests) in
        let w : opposite b a ≡ a - b % a = mod-eq_of_lt (omega arith) in
        of_times (b + opposite b a) (b / a + 1) (omega arith)

module _ (a b m : ℕ) (p : 0 < a) where
  -- what solves the congruence gives what solves the lesser one
  down : (x t : ℤ) → (pos a *ℤ x) -ℤ pos b ≡ t *ℤ pos m → IsSolution (m % a) (opposite b a) a t
  down x t e =
      multiple_same a ((x *ℤ pos a -ℤ (t *ℤ pos (m / a)) *ℤ pos a) -ℤ pos (b + opposite b a)) _ (sum (pos (m % a) *ℤ t) (pos a *ℤ x) (x *ℤ pos a) (t *ℤ pos m) (t *ℤ pos (a * (m / a))) (t *ℤ pos (m % a)) ((t *ℤ pos (m / a)) *ℤ pos a) b (opposite b a) e (*ℤ_comm (pos a) x) parted (*ℤ_comm (pos (m % a)) t) regrouped)
      (multiple_difference a _ _ (multiple_difference a _ _ (multiple_of x) (multiple_of (t *ℤ pos (m / a)))) (opposite_sum a b p))
    where
      multiple_of : (k : ℤ) → IsMultiple a (k *ℤ pos a)
      multiple_of k = record { times = k; value = refl }

      whole : pos m ≡ pos (a * (m / a)) +ℤ pos (m % a)
      whole = let f : a * (m / a) + m % a ≡ m = div-add-mod m a in omega (arith, ints)

      parted : t *ℤ pos m ≡ t *ℤ pos (a * (m / a)) +ℤ t *ℤ pos (m % a)
      parted = ap (λ k. t *ℤ k) whole ∙ times-sum t (pos (a * (m / a))) (pos (m % a))

      regrouped : t *ℤ pos (a * (m / a)) ≡ (t *ℤ pos (m / a)) *ℤ pos a
      regrouped = ap (λ k. t *ℤ k) (ap pos (omega arith) ∙ sym (pos-*ℤ-pos (m / a) a)) ∙ sym (times-times t (pos (m / a)) (pos a))

      sum : (y ax xa tm tq tr qa : ℤ) (b c : ℕ) → ax -ℤ pos b ≡ tm → ax ≡ xa → tm ≡ tq +ℤ tr → y ≡ tr → tq ≡ qa → y -ℤ pos c ≡ (xa -ℤ qa) -ℤ pos (b + c)
      sum y ax xa tm tq tr qa b c e f g h i = omega (arith, ints)

  -- what solves the lesser congruence gives what solves the congruence
  up : (y : ℕ) → IsSolution (m % a) (opposite b a) a (pos y) → IsSolution a b m (pos ((m * y + b) / a))
  up y h =
      let d : a ∣ (m * y + b) = dvd_from_multiple a (pos (m * y + b)) whole in
      let e : a * ((m * y + b) / a) ≡ m * y + b = mul-div_cancel' a d in
      record { times = pos y; value = ap (λ k. k -ℤ pos b) (pos-*ℤ-pos a ((m * y + b) / a) ∙ ap pos e) ∙ less (m * y) (y * m) b (omega arith) ∙ sym (pos-*ℤ-pos y m) }
    where
      less : (u v b : ℕ) → u ≡ v → pos (u + b) -ℤ pos b ≡ pos v
      less u v b e = omega (arith, ints)

      whole : IsMultiple a (pos (m * y + b))
      whole =
          let f : (a * (m / a) + m % a) * y ≡ m * y = ap (λ k. k * y) (div-add-mod m a) in
          let g : pos (m % a) *ℤ pos y ≡ pos ((m % a) * y) = pos-*ℤ-pos (m % a) y in
          let k : IsMultiple a (pos ((m / a) * y) *ℤ pos a) = record { times = pos ((m / a) * y); value = refl } in
          let l : pos ((m / a) * y) *ℤ pos a ≡ pos ((m / a) * y * a) = pos-*ℤ-pos ((m / a) * y) a in
          multiple_same a ((((pos (m % a) *ℤ pos y) -ℤ pos (opposite b a)) +ℤ pos (b + opposite b a)) +ℤ pos ((m / a) * y) *ℤ pos a) _
          (sum (m * y) ((m % a) * y) ((m / a) * y * a) b (opposite b a) _ _ (omega arith) g l)
          (multiple_sum a _ _ (multiple_sum a _ _ h (opposite_sum a b p)) k)
        where
          sum : (n r q b c : ℕ) (s t : ℤ) → n ≡ q + r → s ≡ pos r → t ≡ pos q → pos (n + b) ≡ ((s -ℤ pos c) +ℤ pos (b + c)) +ℤ t
          sum n r q b c s t e f g = omega (arith, ints)

  pub solved : (y : ℕ) → ((x : ℤ) → IsSolution (m % a) (opposite b a) a x → IsSolution (m % a) (opposite b a) a (pos y)) → (x : ℤ) → IsSolution a b m x → IsSolution a b m (pos ((m * y + b) / a))
  solved y h x k = up y (h k.times (down x k.times k.value))

-- it is below the modulus, and what is divided has few bits
pub product_below : (a b m y : ℕ) → b < m → y < a → m * y + b < m * a
product_below a b m y p q = let k : m * (y + 1) ≤ m * a = mul-le-mul (omega arith) (omega arith) in omega arith

pub quotient_below : (a b m y : ℕ) → 0 < a → b < m → y < a → (m * y + b) / a < m
quotient_below a b m y z p q = (div-lt_iff_lt-mul z).1 (product_below a b m y p q)

pub product_small : (a b m y : ℕ) → b < m → y < a → a ≤ 4294967295 → m ≤ 4294967295 → m * y + b ≤ 18446744073709551615
product_small a b m y p q r s =
    let k : m * a ≤ 4294967295 * 4294967295 = mul-le-mul s r in
    let l : m * y + b < m * a = product_below a b m y p q in
    omega arith

-- ---- what the code finds
pub rest_found : (m : ℕ) (d x y r : ℤ) → 0 < m → r ≡ int_rem_euclid x y → x ≡ d → y ≡ pos m → m ≤ 4294967295 → IsMultiple m (d -ℤ pos (unsigned_abs (to_z w128 (of_z w128 r))))
rest_found m d x y r p e f g k = by_rest (remainder_is m d p)
  where
    same : r ≡ int_rem_euclid d (pos m)
    same = e ∙ ap (λ z. int_rem_euclid z y) f ∙ ap (int_rem_euclid d) g

    fits : (m : ℕ) (q r : ℤ) → pos 0 ≤ℤ q → q <ℤ pos m → m ≤ 4294967295 → r ≡ q → pos (unsigned_abs (to_z w128 (of_z w128 r))) ≡ q
    fits m q r l h k e = omega (arith, ints)

    by_rest : IsRemainder m d (int_rem_euclid d (pos m)) → IsMultiple m (d -ℤ pos (unsigned_abs (to_z w128 (of_z w128 r))))
    by_rest i = subst (λ z. IsMultiple m (d -ℤ z)) (sym (fits m _ r i.low i.high k same)) i.rest

pub divides_some : (m k n : ℕ) → 0 < m → k ≡ n → nat_eq (k % m) 0 ≡ divides m n
unfolding divides
divides_some m k n p e =
    let f : nat_eq m 0 ≡ false = grind (arith, nat_tests) in
    ap (λ x. nat_eq (x % m) 0) e ∙ sym (ap (λ t. if t then nat_eq n 0 else nat_eq (n % m) 0) f)

pub divisor_below : (m n g : ℕ) → 0 < n → IsGcd m n g → g ≤ n
divisor_below m n g p h = le_of_dvd p h.1

pub divisor_some : (m n g : ℕ) → 0 < n → IsGcd m n g → 0 < g
divisor_some m n g p h = by_modulus g (λ t z. absurd (none (zero_from_dvd n (subst (λ x. x ∣ n) z h.1)))) (λ t q. q)
  where
    none : n ≡ 0 → ⊥
    none e = omega arith

pub multiple_found : (m n g : ℕ) → IsGcd m n g → m * (n / g) ≡ common_multiple m n
unfolding common_multiple
multiple_found m n g h = ap (λ x. m * (n / x)) (gcd_same m n g h)

-- ---- a number of both strides
-- what steps from the first residue solve is a number of the second stride
solves : (s t : Stride) (d : ℕ) (n x : ℤ) → IsMultiple t.modulus ((t.residue -ℤ s.residue) -ℤ pos d) → n -ℤ s.residue ≡ x *ℤ pos s.modulus → HasStride t n → IsSolution s.modulus d t.modulus x
solves s t d n x h e k =
    multiple_same t.modulus ((n -ℤ t.residue) +ℤ ((t.residue -ℤ s.residue) -ℤ pos d)) _ (moved (pos s.modulus *ℤ x) (x *ℤ pos s.modulus) n s.residue t.residue (pos d) (*ℤ_comm (pos s.modulus) x) e) (multiple_sum t.modulus _ _ k h)
  where
    moved : (p q n c d r : ℤ) → p ≡ q → n -ℤ c ≡ q → p -ℤ r ≡ (n -ℤ d) +ℤ ((d -ℤ c) -ℤ r)
    moved p q n c d r e f = omega (arith, ints)

solved_has : (s t : Stride) (d : ℕ) (n x : ℤ) → IsMultiple t.modulus ((t.residue -ℤ s.residue) -ℤ pos d) → n -ℤ s.residue ≡ x *ℤ pos s.modulus → IsSolution s.modulus d t.modulus x → HasStride t n
solved_has s t d n x h e k =
    multiple_same t.modulus (((pos s.modulus *ℤ x) -ℤ pos d) -ℤ ((t.residue -ℤ s.residue) -ℤ pos d)) _ (moved (pos s.modulus *ℤ x) (x *ℤ pos s.modulus) n s.residue t.residue (pos d) (*ℤ_comm (pos s.modulus) x) e) (multiple_difference t.modulus _ _ k h)
  where
    moved : (p q n c d r : ℤ) → p ≡ q → n -ℤ c ≡ q → n -ℤ d ≡ (p -ℤ r) -ℤ ((d -ℤ c) -ℤ r)
    moved p q n c d r e f = omega (arith, ints)

-- the number that was reached by so many steps is one of both strides, if there is any
module _ (s t : Stride) (d k : ℕ) (n : ℤ) (h : IsMultiple t.modulus ((t.residue -ℤ s.residue) -ℤ pos d)) (v : (x : ℤ) → IsSolution s.modulus d t.modulus x → IsSolution s.modulus d t.modulus (pos k)) (e : n ≡ s.residue +ℤ pos (k * s.modulus)) where
  steps : n -ℤ s.residue ≡ pos k *ℤ pos s.modulus
  steps = moved n s.residue (pos (k * s.modulus)) e ∙ sym (pos-*ℤ-pos k s.modulus)
    where
      moved : (n c p : ℤ) → n ≡ c +ℤ p → n -ℤ c ≡ p
      moved n c p e = omega (arith, ints)

  reached : HasStride s n
  reached = record { times = pos k; value = steps }

  if_any : (c : ℤ) → HasStride s c → HasStride t c → HasStride t n
  if_any c i j = solved_has s t d n (pos k) h steps (v i.times (solves s t d c i.times h i.value j))

  stride_found : (b : Bool) → 0 < t.modulus → b ≡ is_of t n → b ≡ true → stride_through s t (Some n) ≡ stride_through s t (common_number s t)
  stride_found b p f g = through_found s t n p reached (is_of_has t n (sym f ∙ g))

  none_found : (b : Bool) → b ≡ is_of t n → b ≡ false → stride_through s t None ≡ stride_through s t (common_number s t)
  none_found b f g = common_by (λ o. stride_through s t None ≡ stride_through s t o) s t refl (λ c i j. absurd (no (has_is_of t n (if_any c i j))))
    where
      no : is_of t n ≡ true → ⊥
      no i = cc

-- the number as 128 bits have it
back : (n : ℤ) (m : ℕ) (c : ℤ) (k : ℕ) → n ≡ c +ℤ pos (k * m) → unsigned_abs c ≤ 4294967296 → k ≤ 4294967295 → m ≤ 4294967295 → to_z w128 (of_z w128 n) ≡ n
back n m c k e p q r = let f : k * m ≤ 4294967295 * 4294967295 = mul-le-mul q r in omega (arith, ints)

-- the code's number, where the test is made of what 128 bits have
module _ (s t : Stride) (d k : ℕ) (n : ℤ) (b : Bool) (h : IsMultiple t.modulus ((t.residue -ℤ s.residue) -ℤ pos d)) (v : (x : ℤ) → IsSolution s.modulus d t.modulus x → IsSolution s.modulus d t.modulus (pos k)) (e : n ≡ s.residue +ℤ pos (k * s.modulus)) (i : HasFewBits s) (l : k ≤ 4294967295) (g : b ≡ is_of t (to_z w128 (of_z w128 n))) where
  same : to_z w128 (of_z w128 n) ≡ n
  same = back n s.modulus s.residue k e i.residue l i.modulus

  pub through_then : 0 < t.modulus → b ≡ true → stride_through s t (Some (to_z w128 (of_z w128 n))) ≡ stride_through s t (common_number s t)
  through_then p f = ap (λ x. stride_through s t (Some x)) same ∙ stride_found s t d k n h v e b p (g ∙ ap (is_of t) same) f

  pub through_else : b ≡ false → stride_through s t None ≡ stride_through s t (common_number s t)
  through_else f = none_found s t d k n h v e b (g ∙ ap (is_of t) same) f
