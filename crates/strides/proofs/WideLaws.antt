-- Strides in 128 bits, and what of them fits fewer.
use Rattle.std.proofs.Common.{◌≡◌, ℕ, ◌<◌, ◌≤◌, ℤ, pos, negsuc, ◌+ℤ◌, ◌-ℤ◌, ◌≤ℤ◌, ◌<ℤ◌, int_lt, Bool, true, false, Some, None, if◌then◌else◌, refl, sym, ap, subst, ◌∙◌, to_z, of_z, w64, arith}
use Rattle.std.specs.Int.{int_min, int_max, int_rem_euclid, IsGcd, w128}
use Rattle.std.proofs.lemmas.Int.{ints}
use Rattle.strides.specs.declared.stride.Stride.{Stride}
use Rattle.strides.specs.declared.strided.Strided.{Strided}
use Rattle.strides.specs.Divisors.{gcd}
use Rattle.strides.specs.Strides.{stride_at, HasStride, IsReduced, first_from, last_to, stride_of, distance, joined_stride}
use Rattle.strides.specs.Strided.{least, greatest, strided_at, is_bare, point_at, reduced, best_part}
use Rattle.strides.proofs.Multiples.{gcd_same}
use Rattle.strides.proofs.Remainders.{IsRemainder, remainder_is}
use Rattle.strides.proofs.StrideLaws.{by_modulus, alone, first_above, last_below, first_has, last_has, first_zero, first_some, last_zero, last_some, stride_zero, stride_some, stride_modulus}
use Rattle.strides.proofs.StridedLaws.{first_of, last_of, by_reduced, stride_apart}

pub first_then : (l c r x z y : ℤ) (m : ℕ) → r ≡ int_max x z → x ≡ l → z ≡ c → m ≡ 0 → y ≡ r → y ≡ first_from l (stride_at m c)
first_then l c r x z y m e p q k f = f ∙ e ∙ ap (λ v. int_max v z) p ∙ ap (int_max l) q ∙ sym (first_zero l (stride_at m c) k)

pub first_else : (l c r x d y : ℤ) (m : ℕ) → r ≡ int_rem_euclid x d → x ≡ c -ℤ l → d ≡ pos m → 0 < m → y ≡ l +ℤ r → y ≡ first_from l (stride_at m c)
first_else l c r x d y m e p q k f =
    f ∙ ap (λ v. l +ℤ v) (e ∙ ap (λ v. int_rem_euclid v d) p ∙ ap (int_rem_euclid (c -ℤ l)) q) ∙ sym (first_some l (stride_at m c) k)

pub last_then : (h c r x z y : ℤ) (m : ℕ) → r ≡ int_min x z → x ≡ h → z ≡ c → m ≡ 0 → y ≡ r → y ≡ last_to h (stride_at m c)
last_then h c r x z y m e p q k f = f ∙ e ∙ ap (λ v. int_min v z) p ∙ ap (int_min h) q ∙ sym (last_zero h (stride_at m c) k)

pub last_else : (h c r x d y : ℤ) (m : ℕ) → r ≡ int_rem_euclid x d → x ≡ h -ℤ c → d ≡ pos m → 0 < m → y ≡ h -ℤ r → y ≡ last_to h (stride_at m c)
last_else h c r x d y m e p q k f =
    f ∙ ap (λ v. h -ℤ v) (e ∙ ap (λ v. int_rem_euclid v d) p ∙ ap (int_rem_euclid (h -ℤ c)) q) ∙ sym (last_some h (stride_at m c) k)

pub of_then : (n y : ℤ) (m : ℕ) → m ≡ 0 → y ≡ n → stride_at m y ≡ stride_of m n
of_then n y m k f = ap (stride_at m) f ∙ sym (stride_zero m n k)

pub of_else : (n r x d y : ℤ) (m : ℕ) → r ≡ int_rem_euclid x d → x ≡ n → d ≡ pos m → 0 < m → y ≡ r → stride_at m y ≡ stride_of m n
of_else n r x d y m e p q k f =
    ap (stride_at m) (f ∙ e ∙ ap (λ v. int_rem_euclid v d) p ∙ ap (int_rem_euclid n) q) ∙ sym (stride_some m n k)

-- ---- the joined stride, as it is found
pub record IsFound (s t : Stride) (m : ℕ) (r : ℤ) : Type 0 where
  pub same : stride_at m r ≡ joined_stride s t
  pub low : negsuc 9223372036854775807 ≤ℤ r
  pub high : r ≤ℤ pos 9223372036854775807

pub found_modulus : (s t : Stride) (p q d : ℕ) → IsGcd s.modulus t.modulus p → IsGcd p d q → d ≡ distance s t → q ≡ gcd (gcd s.modulus t.modulus) (distance s t)
found_modulus s t p q d h k e =
    gcd_same p d q k ∙ ap (λ x. gcd x d) (gcd_same s.modulus t.modulus p h) ∙ ap (gcd (gcd s.modulus t.modulus)) e

pub found_small : (s t : Stride) (p q d : ℕ) → IsGcd s.modulus t.modulus p → IsGcd p d q → d ≡ distance s t → (joined_stride s t).modulus ≤ 4294967295 → q ≤ 4294967295
found_small s t p q d h k e l =
    let f : q ≡ gcd (gcd s.modulus t.modulus) (distance s t) = found_modulus s t p q d h k e in
    subst (λ x. x ≤ 4294967295) (stride_modulus (gcd (gcd s.modulus t.modulus) (distance s t)) s.residue ∙ sym f) l

reduced_fits : (m : ℕ) (c : ℤ) → m ≤ 4294967295 → negsuc 9223372036854775807 ≤ℤ c → c ≤ℤ pos 9223372036854775807 → (negsuc 9223372036854775807 ≤ℤ (stride_of m c).residue) × ((stride_of m c).residue ≤ℤ pos 9223372036854775807)
reduced_fits m c k p q =
    by_modulus m
    (λ t z. subst (λ s. (negsuc 9223372036854775807 ≤ℤ s.residue) × (s.residue ≤ℤ pos 9223372036854775807)) (sym (stride_zero m c z)) (p, q))
    (λ t o. subst (λ s. (negsuc 9223372036854775807 ≤ℤ s.residue) × (s.residue ≤ℤ pos 9223372036854775807)) (sym (stride_some m c o)) (remainder_fits (int_rem_euclid c (pos m)) (remainder_is m c o)))
  where
    remainder_fits : (r : ℤ) → IsRemainder m c r → (negsuc 9223372036854775807 ≤ℤ r) × (r ≤ℤ pos 9223372036854775807)
    remainder_fits r i = let u : pos 0 ≤ℤ r = i.low in let w : r <ℤ pos m = i.high in (omega (arith, ints), omega (arith, ints))

pub found : (s t : Stride) (p q d m : ℕ) (c r : ℤ) → IsGcd s.modulus t.modulus p → IsGcd p d q → d ≡ distance s t → c ≡ s.residue → (joined_stride s t).modulus ≤ 4294967295 → negsuc 9223372036854775807 ≤ℤ s.residue → s.residue ≤ℤ pos 9223372036854775807 → stride_at m r ≡ stride_of q c → IsFound s t m r
found s t p q d m c r h k e f l u w g =
    let i : q ≡ gcd (gcd s.modulus t.modulus) (distance s t) = found_modulus s t p q d h k e in
    let o : stride_at m r ≡ stride_of q s.residue = g ∙ ap (stride_of q) f in
    let (a, b) = reduced_fits q s.residue (found_small s t p q d h k e l) u w in
    let n : r ≡ (stride_of q s.residue).residue = ap (λ z. z.residue) o in
    record { same = o ∙ ap (λ z. stride_of z s.residue) i; low = omega (arith, ints); high = omega (arith, ints) }

-- ---- best bounds, as they are found
pub record AreEnds (f l : ℤ) : Type 0 where
  pub first_low : least ≤ℤ f
  pub first_high : f ≤ℤ greatest
  pub last_low : least ≤ℤ l
  pub last_high : l ≤ℤ greatest

pub are_ends : (b : Strided) (f l : ℤ) → f ≡ first_from b.low b.stride → l ≡ last_to b.high b.stride → f ≤ℤ l → least ≤ℤ b.low → b.high ≤ℤ greatest → AreEnds f l
are_ends b f l e g o p q =
    let u : b.low ≤ℤ first_of b = first_above b.low b.stride in
    let w : last_of b ≤ℤ b.high = last_below b.high b.stride in
    record { first_low = omega (arith, ints); first_high = omega (arith, ints); last_low = omega (arith, ints); last_high = omega (arith, ints) }

pub reduced_point : (b : Strided) (f l : ℤ) → f ≡ first_from b.low b.stride → l ≡ last_to b.high b.stride → f ≡ l → point_at f ≡ reduced b
reduced_point b f l e g o =
    let k : first_of b ≡ last_of b = sym e ∙ o ∙ g in
    by_reduced (λ r. point_at f ≡ r) b (λ t. absurd (not_bare k t)) (λ t u. ap point_at e) (λ t u. absurd (not_less k u))
  where
    not_bare : first_of b ≡ last_of b → is_bare b ≡ true → ⊥
    not_bare k t = omega (arith, ints)

    not_less : first_of b ≡ last_of b → first_of b <ℤ last_of b → ⊥
    not_less k t = omega (arith, ints)

pub reduced_rest : (b : Strided) (f l : ℤ) → f ≡ first_from b.low b.stride → l ≡ last_to b.high b.stride → f <ℤ l → strided_at f l b.stride ≡ reduced b
reduced_rest b f l e g o =
    let k : first_of b <ℤ last_of b = omega (arith, ints) in
    by_reduced (λ r. strided_at f l b.stride ≡ r) b (λ t. absurd (not_bare k t)) (λ t u. absurd (not_same k u)) (λ t u. ap (λ x. strided_at x l b.stride) e ∙ ap (λ x. strided_at (first_of b) x b.stride) g)
  where
    not_bare : first_of b <ℤ last_of b → is_bare b ≡ true → ⊥
    not_bare k t = omega (arith, ints)

    not_same : first_of b <ℤ last_of b → first_of b ≡ last_of b → ⊥
    not_same k t = omega (arith, ints)

pub record IsNarrow (s : Stride) : Type 0 where
  pub modulus : s.modulus ≤ 4294967295
  pub low : pos 0 ≤ℤ s.residue
  pub high : s.residue ≤ℤ pos 4294967295

-- where two numbers of `int` have it, a stride fits few bits
pub is_narrow : (b : Strided) (f l : ℤ) → f ≡ first_from b.low b.stride → l ≡ last_to b.high b.stride → f <ℤ l → AreEnds f l → IsReduced b.stride → IsNarrow b.stride
is_narrow b f l e g o i r =
    by_modulus b.stride.modulus
    (λ t z. absurd (no_two z))
    (λ t p. narrow (i.first_low) (i.last_high) (stride_apart b.stride f l has_f has_l o) (r.low p) (r.high p))
  where
    q : first_from b.low b.stride ≤ℤ last_to b.high b.stride
    q = omega (arith, ints)

    has_f : HasStride b.stride f
    has_f = subst (HasStride b.stride) (sym e) (first_has b.low b.high b.stride q)

    has_l : HasStride b.stride l
    has_l = subst (HasStride b.stride) (sym g) (last_has b.low b.high b.stride q)

    no_two : b.stride.modulus ≡ 0 → ⊥
    no_two z =
        let u : f ≡ b.stride.residue = alone b.stride f z has_f in
        let w : l ≡ b.stride.residue = alone b.stride l z has_l in
        omega (arith, ints)

    narrow : least ≤ℤ f → l ≤ℤ greatest → pos b.stride.modulus ≤ℤ (l -ℤ f) → pos 0 ≤ℤ b.stride.residue → b.stride.residue <ℤ pos b.stride.modulus → IsNarrow b.stride
    narrow h k m u w = record { modulus = omega (arith, ints); low = u; high = omega (arith, ints) }

-- ---- whether there is a number
pub none_by : (b : Strided) (f l : ℤ) → f ≡ first_from b.low b.stride → l ≡ last_to b.high b.stride → l <ℤ f → best_part b ≡ None
none_by b f l e g o = ap (λ t. if t then None else Some (reduced b)) (is_bare_true b f l e g o)
  where
    is_bare_true : (b : Strided) (f l : ℤ) → f ≡ first_from b.low b.stride → l ≡ last_to b.high b.stride → l <ℤ f → is_bare b ≡ true
    is_bare_true b f l e g o = let k : last_of b <ℤ first_of b = omega (arith, ints) in grind (arith, ints)

pub bare_kept : (b : Strided) (f l : ℤ) → f ≡ first_from b.low b.stride → l ≡ last_to b.high b.stride → l <ℤ f → b ≡ reduced b
bare_kept b f l e g o = by_reduced (λ r. b ≡ r) b (λ t. refl) (λ t u. absurd (not_same u)) (λ t u. absurd (not_less u))
  where
    not_same : first_of b ≡ last_of b → ⊥
    not_same t = omega (arith, ints)

    not_less : first_of b <ℤ last_of b → ⊥
    not_less t = omega (arith, ints)

pub some_by : (b r : Strided) (f l : ℤ) → f ≡ first_from b.low b.stride → l ≡ last_to b.high b.stride → f ≤ℤ l → r ≡ reduced b → Some r ≡ best_part b
some_by b r f l e g o k = ap Some k ∙ sym (ap (λ t. if t then None else Some (reduced b)) (is_bare_false b f l e g o))
  where
    is_bare_false : (b : Strided) (f l : ℤ) → f ≡ first_from b.low b.stride → l ≡ last_to b.high b.stride → f ≤ℤ l → is_bare b ≡ false
    is_bare_false b f l e g o = let k : first_of b ≤ℤ last_of b = omega (arith, ints) in grind (arith, ints)

pub first_same : (l : ℤ) (s t : Stride) (x f : ℤ) → f ≡ first_from x t → x ≡ l → t ≡ s → f ≡ first_from l s
first_same l s t x f e p q = e ∙ ap (λ y. first_from y t) p ∙ ap (first_from l) q

pub last_same : (h : ℤ) (s t : Stride) (x f : ℤ) → f ≡ last_to x t → x ≡ h → t ≡ s → f ≡ last_to h s
last_same h s t x f e p q = e ∙ ap (λ y. last_to y t) p ∙ ap (last_to h) q

pub bare_by : (b : Strided) (t : Bool) (f l : ℤ) → f ≡ first_from b.low b.stride → l ≡ last_to b.high b.stride → t ≡ int_lt l f → t ≡ is_bare b
bare_by b t f l e g k = k ∙ ap (λ x. int_lt x f) g ∙ ap (int_lt (last_of b)) e

pub record AreWithin (b : Strided) (f l : ℤ) : Type 0 where
  pub first_low : b.low ≤ℤ f
  pub first_high : f ≤ℤ b.high
  pub last_low : b.low ≤ℤ l
  pub last_high : l ≤ℤ b.high

pub are_within : (b : Strided) (f l : ℤ) → f ≡ first_from b.low b.stride → l ≡ last_to b.high b.stride → f ≤ℤ l → AreWithin b f l
are_within b f l e g o =
    let u : b.low ≤ℤ first_of b = first_above b.low b.stride in
    let w : last_of b ≤ℤ b.high = last_below b.high b.stride in
    record { first_low = omega (arith, ints); first_high = omega (arith, ints); last_low = omega (arith, ints); last_high = omega (arith, ints) }

-- a number between two of 64 bits comes back from them
pub back : (a b r : ℤ) → to_z w64 (of_z w64 a) ≡ a → to_z w64 (of_z w64 b) ≡ b → a ≤ℤ r → r ≤ℤ b → to_z w64 (of_z w64 (to_z w128 (of_z w128 r))) ≡ r
back a b r u w p q =
    let e : to_z w128 (of_z w128 r) ≡ r = omega (arith, ints) in
    let f : to_z w64 (of_z w64 r) ≡ r = omega (arith, ints) in
    ap (λ x. to_z w64 (of_z w64 x)) e ∙ f
