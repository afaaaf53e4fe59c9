-- The strides that the code finds in 128 bits are small, and those that the definitions have.
use Rattle.std.proofs.Common.{◌≡◌, ◌≢◌, ℕ, ◌<◌, ◌≤◌, ℤ, pos, negsuc, ◌-ℤ◌, ◌≤ℤ◌, ◌<ℤ◌, unsigned_abs, ap, sym, subst, ◌∙◌, arith}
use Rattle.std.specs.Int.{IsGcd, ◌∣◌}
use Rattle.std.proofs.lemmas.Int.{ints}
use Rattle.std.proofs.lemmas.Nat.Gcd.{le_of_dvd}
use Rattle.c_tree.specs.Value.{least, greatest, IsInt}
use Rattle.strides.specs.declared.stride.Stride.{Stride}
use Rattle.strides.specs.Divisors.{gcd}
use Rattle.strides.specs.Strides.{stride_at, stride_of, IsReduced}
use Rattle.strides.proofs.Multiples.{gcd_same, zero_from_dvd}
use Rattle.strides.proofs.StrideLaws.{stride_modulus, stride_reduced, by_modulus, stride_zero}
use Rattle.congruence_leaf.specs.Remainders.{stride_less, stride_modulo}

pub size_some : (m : ℤ) → m ≢ pos 0 → 0 < unsigned_abs m
size_some (pos n) z = let u : n ≢ 0 = λ e. z (ap pos e) in omega arith
size_some (negsuc n) z = omega arith

-- a modulus and a residue of few bits
pub record IsSmall (m : ℕ) (c : ℤ) : Type 0 where
  pub modulus : m ≤ 4294967295
  pub residue : unsigned_abs c ≤ 4294967296

-- what is found is what is defined, and small
pub record IsNarrow (m : ℕ) (c : ℤ) (s : Stride) : Type 0 where
  pub is : stride_at m c ≡ s
  pub small : IsSmall m c

-- a reduced residue of a small modulus above 0
small_by : (m : ℕ) (c : ℤ) → 0 < m → m ≤ 4294967295 → IsReduced (stride_at m c) → IsSmall m c
small_by m c p h r =
    let l : pos 0 ≤ℤ c = r.low p in
    let u : c <ℤ pos m = r.high p in
    record { modulus = h; residue = omega (arith, ints) }

-- what divides a divisor within int is small
pub modulo_small : (s : Stride) (m : ℤ) (size g : ℕ) → IsInt m → m ≢ pos 0 → size ≡ unsigned_abs m → IsGcd s.modulus size g → g ≤ 4294967295
modulo_small s m size g i z e h =
    let p : 0 < unsigned_abs m = size_some m z in
    let q : g ≤ unsigned_abs m = subst (λ n. g ≤ n) e (le_of_dvd (subst (λ n. 0 < n) (sym e) p) h.1) in
    let a : least ≤ℤ m = i.low in
    let b : m ≤ℤ greatest = i.high in
    omega (arith, ints)

-- the stride by a divisor, found by Euclid's algorithm
pub modulo_narrow : (s : Stride) (m : ℤ) (size g k : ℕ) (c r : ℤ) → IsInt m → m ≢ pos 0 → size ≡ unsigned_abs m → IsGcd s.modulus size g → c ≡ s.residue → stride_at k r ≡ stride_of g c → IsNarrow k r (stride_modulo m s)
unfolding stride_modulo
modulo_narrow s m size g k c r i z e h f w =
    let p : 0 < unsigned_abs m = size_some m z in
    let q : g ≤ unsigned_abs m = subst (λ n. g ≤ n) e (le_of_dvd (subst (λ n. 0 < n) (sym e) p) h.1) in
    let v : 0 < g = positive g size (subst (λ n. 0 < n) (sym e) p) h in
    let d : k ≡ g = ap (λ (t : Stride). t.modulus) w ∙ stride_modulus g c in
    let l : IsReduced (stride_at k r) = subst IsReduced (sym w) (stride_reduced g c) in
    let a : least ≤ℤ m = i.low in
    let b : m ≤ℤ greatest = i.high in
    let u : unsigned_abs m ≤ 2147483648 = omega (arith, ints) in
    record {
      is = w ∙ ap (λ n. stride_of n c) (subst (λ n. g ≡ gcd s.modulus n) e (gcd_same s.modulus size g h)) ∙ ap (λ x. stride_of (gcd s.modulus (unsigned_abs m)) x) f;
      small = small_by k r (omega arith) (omega arith) l;
    }
  where
    positive : (g n : ℕ) → 0 < n → IsGcd s.modulus n g → 0 < g
    positive g n p h = by_modulus g (λ t y. absurd (no n p (zero_from_dvd n (subst (λ x. x ∣ n) y h.1)))) (λ t y. y)
      where
        no : (n : ℕ) → 0 < n → n ≡ 0 → ⊥
        no n p e = omega arith

-- the stride with a number taken from each
pub less_narrow : (s : Stride) (k c r : ℤ) (m n : ℕ) → IsSmall s.modulus s.residue → unsigned_abs k ≤ 1099511627776 → n ≡ s.modulus → c ≡ s.residue -ℤ k → stride_at m r ≡ stride_of n c → (stride_at m r ≡ stride_less k s) × (m ≤ 4294967295) × (negsuc 9223372036854775807 ≤ℤ r) × (r ≤ℤ pos 9223372036854775807)
unfolding stride_less
less_narrow s k c r m n h q e f w = (w ∙ ap (λ x. stride_of x c) e ∙ ap (λ x. stride_of s.modulus x) f, sized, bounds.0, bounds.1)
  where
    d : m ≡ s.modulus
    d = ap (λ (t : Stride). t.modulus) w ∙ stride_modulus n c ∙ e

    sized : m ≤ 4294967295
    sized = subst (λ x. x ≤ 4294967295) (sym d) h.modulus

    alone : m ≡ 0 → (negsuc 9223372036854775807 ≤ℤ r) × (r ≤ℤ pos 9223372036854775807)
    alone z =
        let y : n ≡ 0 = e ∙ sym d ∙ z in
        let x : r ≡ c = ap (λ (t : Stride). t.residue) (w ∙ stride_zero n c y) in
        let p : unsigned_abs s.residue ≤ 4294967296 = h.residue in
        (omega (arith, ints), omega (arith, ints))

    reduced : 0 < m → (negsuc 9223372036854775807 ≤ℤ r) × (r ≤ℤ pos 9223372036854775807)
    reduced p =
        let i : IsReduced (stride_at m r) = subst IsReduced (sym w) (stride_reduced n c) in
        let l : pos 0 ≤ℤ r = i.low p in
        let u : r <ℤ pos m = i.high p in
        (omega (arith, ints), omega (arith, ints, sized))

    bounds : (negsuc 9223372036854775807 ≤ℤ r) × (r ≤ℤ pos 9223372036854775807)
    bounds = by_modulus m (λ t z. alone z) (λ t p. reduced p)
