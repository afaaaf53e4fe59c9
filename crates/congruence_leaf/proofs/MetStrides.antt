-- The numbers of a part that have another stride too, as the code finds them.
use Rattle.std.proofs.Common.{◌≡◌, ◌≢◌, ℕ, ◌*◌, ◌/◌, ◌^◌, ◌<◌, ◌≤◌, ℤ, pos, neg_ℤ, ◌-ℤ◌, ◌≤ℤ◌, ◌<ℤ◌, unsigned_abs, Bool, true, false, if◌then◌else◌, Option, Some, None, refl, ap, sym, subst, ◌∙◌, arith}
use Rattle.std.specs.Int.{◌∣◌}
use Rattle.std.proofs.lemmas.Int.{ints}
use Rattle.std.proofs.Math.Nat.{div-le_self, mul-le-mul}
use Rattle.strides.specs.declared.stride.Stride.{Stride}
use Rattle.strides.specs.declared.strided.Strided.{Strided}
use Rattle.strides.specs.Divisors.{gcd}
use Rattle.strides.specs.Strides.{IsReduced, IsWide, stride_at, stride_of, first_from, last_to, lies_in_stride}
use Rattle.strides.specs.Strided.{strided_at, best_part, IsOwn}
use Rattle.strides.proofs.Multiples.{gcd_is, zero_from_dvd}
use Rattle.strides.proofs.StrideLaws.{by_modulus, stride_modulus, stride_reduced, stride_zero, first_above, last_below}
use Rattle.strides.proofs.WideLaws.{none_by}
use Rattle.congruence_leaf.specs.TwoStrides.{common_multiple, first_of, common_number, stride_through, common_stride, part_by, strided_met, HasFewBits}
use Rattle.congruence_leaf.specs.Remainders.{stride_less, stride_modulo}
use Rattle.congruence_leaf.proofs.Narrow.{size_some}
use Rattle.congruence_leaf.proofs.Back.{residue_small}

-- a part by no stride has no number
pub none_part : (b : Strided) → best_part (part_by b None) ≡ None
none_part b =
    none_by (part_by b None) (first_from (pos 1) (stride_at 1 (pos 0))) (last_to (pos 0) (stride_at 1 (pos 0))) refl refl
    (below _ _ (first_above (pos 1) (stride_at 1 (pos 0))) (last_below (pos 0) (stride_at 1 (pos 0))))
  where
    below : (f l : ℤ) → pos 1 ≤ℤ f → l ≤ℤ pos 0 → l <ℤ f
    below f l p q = omega (arith, ints)

-- with the modulus 0 no number is looked for
pub none_apart : (b : Strided) (t : Stride) → t.modulus ≡ 0 → None ≡ best_part (part_by b (stride_through b.stride t (common_number b.stride t)))
unfolding common_number
none_apart b t e =
    sym (none_part b) ∙ ap (λ k. best_part (part_by b (stride_through b.stride t (first_of k b.stride.residue b.stride.modulus t)))) (sym e)

pub none_common : (b : Strided) (t : Stride) → stride_through b.stride t None ≡ stride_through b.stride t (common_number b.stride t) → None ≡ best_part (part_by b (stride_through b.stride t (common_number b.stride t)))
none_common b t e = sym (none_part b) ∙ ap (λ o. best_part (part_by b o)) e

pub some_common : (b : Strided) (t : Stride) (n : ℤ) (r : Option Strided) → stride_through b.stride t (Some n) ≡ stride_through b.stride t (common_number b.stride t) → r ≡ best_part (strided_at b.low b.high (stride_of (common_multiple b.stride.modulus t.modulus) n)) → r ≡ best_part (part_by b (stride_through b.stride t (common_number b.stride t)))
some_common b t n r e f = f ∙ ap (λ o. best_part (part_by b o)) e

-- ---- sizes
pub own_small : (b : Strided) → IsOwn b → HasFewBits b.stride
own_small b h = record { modulus = h.modulus; residue = residue_small b h }

pub reduced_small : (s : Stride) → 0 < s.modulus → s.modulus ≤ 4294967295 → IsReduced s → HasFewBits s
reduced_small s p h r = record { modulus = h; residue = below s.residue s.modulus (r.low p) (r.high p) h }
  where
    below : (c : ℤ) (m : ℕ) → pos 0 ≤ℤ c → c <ℤ pos m → m ≤ 4294967295 → unsigned_abs c ≤ 4294967296
    below c m p q r = omega (arith, ints)

pub multiple_small : (m n : ℕ) → m ≤ 4294967295 → n ≤ 4294967295 → common_multiple m n ≤ 2 ^ 64
unfolding common_multiple
multiple_small m n p q =
    let e : n / gcd m n ≤ 4294967295 = omega (arith, div-le_self n (gcd m n)) in
    let f : m * (n / gcd m n) ≤ 4294967295 * 4294967295 = mul-le-mul p e in
    omega arith

pub through_wide : (m : ℕ) (n : ℤ) (s : Stride) → m ≤ 2 ^ 64 → neg_ℤ (pos (2 ^ 80)) ≤ℤ n → n ≤ℤ pos (2 ^ 80) → s ≡ stride_of m n → IsWide s
through_wide m n s p l h e = subst IsWide (sym e) (by_modulus m (λ t z. subst IsWide (sym (stride_zero m n z)) (alone m n p l h)) (λ t q. some q))
  where
    alone : (m : ℕ) (n : ℤ) → m ≤ 2 ^ 64 → neg_ℤ (pos (2 ^ 80)) ≤ℤ n → n ≤ℤ pos (2 ^ 80) → IsWide (stride_at m n)
    alone m n p l h = record { modulus = omega arith; low = omega (arith, ints); high = omega (arith, ints) }

    between : (c : ℤ) (m : ℕ) → pos 0 ≤ℤ c → c <ℤ pos m → m ≤ 2 ^ 64 → (neg_ℤ (pos (2 ^ 100)) ≤ℤ c) × (c ≤ℤ pos (2 ^ 100))
    between c m q r p = (omega (arith, ints), omega (arith, ints))

    some : 0 < m → IsWide (stride_of m n)
    some q =
        let r : IsReduced (stride_of m n) = stride_reduced m n in
        let f : (stride_of m n).modulus ≡ m = stride_modulus m n in
        let o : 0 < (stride_of m n).modulus = omega arith in
        let b : (neg_ℤ (pos (2 ^ 100)) ≤ℤ (stride_of m n).residue) × ((stride_of m n).residue ≤ℤ pos (2 ^ 100)) = between (stride_of m n).residue (stride_of m n).modulus (r.low o) (r.high o) (omega arith) in
        record { modulus = omega arith; low = b.0; high = b.1 }

-- what a remainder leaves of a form, and of its variable
pub modulo_some : (m : ℤ) (s : Stride) → m ≢ pos 0 → 0 < (stride_modulo m s).modulus
unfolding stride_modulo
modulo_some m s z =
    subst (λ k. 0 < k) (sym (stride_modulus (gcd s.modulus (unsigned_abs m)) s.residue))
    (by_modulus (gcd s.modulus (unsigned_abs m)) (λ t e. absurd (none (zero_from_dvd (unsigned_abs m) (subst (λ k. k ∣ unsigned_abs m) e (gcd_is s.modulus (unsigned_abs m)).1)) (size_some m z))) (λ t p. p))
  where
    none : {n : ℕ} → n ≡ 0 → 0 < n → ⊥
    none e p = omega arith

pub less_small : (k : ℤ) (s t : Stride) → t ≡ stride_less k s → 0 < s.modulus → s.modulus ≤ 4294967295 → HasFewBits t
unfolding stride_less
less_small k s t e p h =
    let f : t.modulus ≡ s.modulus = ap (λ (u : Stride). u.modulus) e ∙ stride_modulus s.modulus (s.residue -ℤ k) in
    reduced_small t (subst (λ n. 0 < n) (sym f) p) (subst (λ n. n ≤ 4294967295) (sym f) h) (subst IsReduced (sym e) (stride_reduced s.modulus (s.residue -ℤ k)))

-- ---- the stride of both
pub met_first : (b : Strided) (t : Stride) (x : Bool) → x ≡ lies_in_stride b.stride t → x ≡ true → b ≡ strided_met b t
unfolding strided_met common_stride
met_first b t x e f = sym (ap (λ y. part_by b (if y then Some b.stride else (if lies_in_stride t b.stride then Some t else stride_through b.stride t (common_number b.stride t)))) (sym e ∙ f))

pub met_second : (b : Strided) (t : Stride) (x y : Bool) → x ≡ lies_in_stride b.stride t → x ≡ false → y ≡ lies_in_stride t b.stride → y ≡ true → strided_at b.low b.high t ≡ strided_met b t
unfolding strided_met common_stride
met_second b t x y e f g h =
    sym (ap (λ z. part_by b (if z then Some b.stride else (if lies_in_stride t b.stride then Some t else stride_through b.stride t (common_number b.stride t)))) (sym e ∙ f)
    ∙ ap (λ z. part_by b (if z then Some t else stride_through b.stride t (common_number b.stride t))) (sym g ∙ h))

pub met_other : (b : Strided) (t : Stride) (x y : Bool) → x ≡ lies_in_stride b.stride t → x ≡ false → y ≡ lies_in_stride t b.stride → y ≡ false → part_by b (stride_through b.stride t (common_number b.stride t)) ≡ strided_met b t
unfolding strided_met common_stride
met_other b t x y e f g h =
    sym (ap (λ z. part_by b (if z then Some b.stride else (if lies_in_stride t b.stride then Some t else stride_through b.stride t (common_number b.stride t)))) (sym e ∙ f)
    ∙ ap (λ z. part_by b (if z then Some t else stride_through b.stride t (common_number b.stride t))) (sym g ∙ h))
