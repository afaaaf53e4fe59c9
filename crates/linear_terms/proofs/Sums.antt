-- Sums of rising terms, term by term and as two lists are merged.
use Rattle.std.proofs.Common.{◌≡◌, ◌≢◌, ℕ, suc, ◌<◌, ◌≤◌, ◌<ℤ◌, ℤ, pos, ◌+ℤ◌, ◌*ℤ◌, Bool, true, false, if◌then◌else◌, List, [], ◌∷◌, ◌++◌, sym, ap, subst, refl, ◌∙◌, arith, FitsSigned, to_z, of_z, w64}
use Rattle.std.specs.Int.{w128}
use Rattle.std.proofs.lemmas.Int.{ints, to_z-of_z}
use Rattle.std.proofs.lemmas.Cmp.{ranked, int_ranked}
use Rattle.std.specs.declared.cmp.Ordering.{Ordering}
use Rattle.std.specs.declared.cmp.Ordering.TheVariants.{Less, Equal, Greater}
use Rattle.std.specs.Ordering.{nat_cmp, int_cmp, int_eq, is_eq, MatchOrdering}
use Rattle.linear_terms.specs.Terms.{RisesFrom, IsRising, one, placed, with_term, terms_sum, terms_by}
use Rattle.std.proofs.lemmas.List.{append-nil}

-- ---- the test for 0

zero_by : (o : Ordering) (a : ℤ) → MatchOrdering o (a <ℤ pos 0) (a ≡ pos 0) (pos 0 <ℤ a) → is_eq o ≡ true → a ≡ pos 0
zero_by Less a m e = cc
zero_by Equal a m e = m
zero_by Greater a m e = cc

-- the test is passed by 0 alone
pub is_zero : (a : ℤ) → int_eq a (pos 0) ≡ true → a ≡ pos 0
is_zero a e = zero_by (int_cmp a (pos 0)) a (int_ranked a (pos 0) _ refl) e

other_by : (o : Ordering) (a : ℤ) → MatchOrdering o (a <ℤ pos 0) (a ≡ pos 0) (pos 0 <ℤ a) → a ≢ pos 0 → is_eq o ≡ false
other_by Less a m h = refl
other_by Equal a m h = absurd (h m)
other_by Greater a m h = refl

pub is_other : (a : ℤ) → a ≢ pos 0 → int_eq a (pos 0) ≡ false
is_other a h = other_by (int_cmp a (pos 0)) a (int_ranked a (pos 0) _ refl) h

differs_by : (o : Ordering) (a : ℤ) → MatchOrdering o (a <ℤ pos 0) (a ≡ pos 0) (pos 0 <ℤ a) → is_eq o ≡ false → a ≢ pos 0
differs_by Less a m e = λ h. omega (arith, ints)
differs_by Equal a m e = cc
differs_by Greater a m e = λ h. omega (arith, ints)

pub differs : (a : ℤ) → int_eq a (pos 0) ≡ false → a ≢ pos 0
differs a e = differs_by (int_cmp a (pos 0)) a (int_ranked a (pos 0) _ refl) e

pub one-other : (n : ℕ) (a : ℤ) → a ≢ pos 0 → one n a ≡ (n, a) ∷ []
one-other n a h = ap (λ b. if b then [] else (n, a) ∷ []) (is_other a h)

-- ---- terms that rise

pub rises_lower : (m n : ℕ) (ts : List (ℕ × ℤ)) → n ≤ m → RisesFrom m ts → RisesFrom n ts
rises_lower m n [] h r = tt
rises_lower m n (t ∷ ts) h r = let k : m ≤ t.0 = r.0 in (omega arith, r.1, r.2)

one_by : (b : Bool) (m n : ℕ) (a : ℤ) (ts : List (ℕ × ℤ)) → b ≡ int_eq a (pos 0) → m ≤ n → RisesFrom (suc n) ts → RisesFrom m ((if b then [] else (n, a) ∷ []) ++ ts)
one_by true m n a ts e h r = rises_lower (suc n) m ts (omega arith) r
one_by false m n a ts e h r = (h, differs a (sym e), r)

pub one-rises : (m n : ℕ) (a : ℤ) (ts : List (ℕ × ℤ)) → m ≤ n → RisesFrom (suc n) ts → RisesFrom m (one n a ++ ts)
one-rises m n a ts h r = one_by (int_eq a (pos 0)) m n a ts refl h r

placed-rises : (o : Ordering) (m n : ℕ) (a : ℤ) (t : ℕ × ℤ) (ts more : List (ℕ × ℤ)) → MatchOrdering o (n < t.0) (n ≡ t.0) (t.0 < n) → m ≤ n → RisesFrom m (t ∷ ts)
    → (suc t.0 ≤ n → RisesFrom (suc t.0) more) → RisesFrom m (placed o n a t ts more)
placed-rises Less m n a t ts more o h r k = one-rises m n a (t ∷ ts) h (omega arith, r.1, r.2)
placed-rises Equal m n a t ts more o h r k = one-rises m n (a +ℤ t.1) ts h (rises_lower (suc t.0) (suc n) ts (omega arith) r.2)
placed-rises Greater m n a t ts more o h r k = (r.0, r.1, k (omega arith))

alone_by : (b : Bool) (m n : ℕ) (a : ℤ) → b ≡ int_eq a (pos 0) → m ≤ n → RisesFrom m (if b then [] else (n, a) ∷ [])
alone_by true m n a e h = tt
alone_by false m n a e h = (h, differs a (sym e), tt)

pub with_term-rises : (m n : ℕ) (a : ℤ) (ts : List (ℕ × ℤ)) → m ≤ n → RisesFrom m ts → RisesFrom m (with_term n a ts)
with_term-rises m n a [] h r = alone_by (int_eq a (pos 0)) m n a refl h
with_term-rises m n a (t ∷ ts) h r =
    placed-rises (nat_cmp n t.0) m n a t ts (with_term n a ts) (ranked n t.0 _ refl) h r (λ k. with_term-rises (suc t.0) n a ts k r.2)

pub terms_sum_rises : (m : ℕ) (ts us : List (ℕ × ℤ)) → RisesFrom m ts → RisesFrom m us → RisesFrom m (terms_sum ts us)
terms_sum_rises m [] us r q = q
terms_sum_rises m (t ∷ ts) us r q =
    let h : m ≤ t.0 = r.0 in
    with_term-rises m t.0 t.1 (terms_sum ts us) h (terms_sum_rises m ts us (rises_lower (suc t.0) m ts (omega arith) r.2) q)

pub terms_by_rises : (k : ℤ) (m : ℕ) (ts : List (ℕ × ℤ)) → RisesFrom m ts → RisesFrom m (terms_by k ts)
terms_by_rises k m [] r = tt
terms_by_rises k m (t ∷ ts) r = one-rises m t.0 (t.1 *ℤ k) (terms_by k ts) r.0 (terms_by_rises k (suc t.0) ts r.2)

-- ---- the first term of a sum

below_first : (o : Ordering) (n : ℕ) (a : ℤ) (t : ℕ × ℤ) (ts more : List (ℕ × ℤ)) → MatchOrdering o (n < t.0) (n ≡ t.0) (t.0 < n) → n < t.0 → placed o n a t ts more ≡ one n a ++ t ∷ ts
below_first Less n a t ts more o h = refl
below_first Equal n a t ts more o h = absurd (omega arith)
below_first Greater n a t ts more o h = absurd (omega arith)

above_first : (o : Ordering) (n : ℕ) (a : ℤ) (t : ℕ × ℤ) (ts more : List (ℕ × ℤ)) → MatchOrdering o (n < t.0) (n ≡ t.0) (t.0 < n) → t.0 < n → placed o n a t ts more ≡ t ∷ more
above_first Less n a t ts more o h = absurd (omega arith)
above_first Equal n a t ts more o h = absurd (omega arith)
above_first Greater n a t ts more o h = refl

same_first : (o : Ordering) (n : ℕ) (a : ℤ) (t : ℕ × ℤ) (ts more : List (ℕ × ℤ)) → MatchOrdering o (n < t.0) (n ≡ t.0) (t.0 < n) → n ≡ t.0 → placed o n a t ts more ≡ one n (a +ℤ t.1) ++ ts
same_first Less n a t ts more o h = absurd (omega arith)
same_first Equal n a t ts more o h = refl
same_first Greater n a t ts more o h = absurd (omega arith)

before : (n : ℕ) (a : ℤ) (ts : List (ℕ × ℤ)) → RisesFrom (suc n) ts → with_term n a ts ≡ one n a ++ ts
before n a [] r = sym (append-nil (one n a))
before n a (t ∷ ts) r = let h : suc n ≤ t.0 = r.0 in below_first (nat_cmp n t.0) n a t ts (with_term n a ts) (ranked n t.0 _ refl) (omega arith)

behind : (n : ℕ) (b : ℤ) (ts us : List (ℕ × ℤ)) → RisesFrom (suc n) ts → terms_sum ts ((n, b) ∷ us) ≡ (n, b) ∷ terms_sum ts us
behind n b [] us r = refl
behind n b (t ∷ ts) us r =
    let h : suc n ≤ t.0 = r.0 in
    ap (with_term t.0 t.1) (behind n b ts us (rises_lower (suc t.0) (suc n) ts (omega arith) r.2))
    ∙ above_first (nat_cmp t.0 n) t.0 t.1 (n, b) (terms_sum ts us) (with_term t.0 t.1 (terms_sum ts us)) (ranked t.0 n _ refl) (omega arith)

-- the left one's first term stands below the right ones
pub left_first : (n : ℕ) (a : ℤ) (ts us : List (ℕ × ℤ)) → RisesFrom (suc n) ts → RisesFrom (suc n) us → terms_sum ((n, a) ∷ ts) us ≡ one n a ++ terms_sum ts us
left_first n a ts us r q = before n a (terms_sum ts us) (terms_sum_rises (suc n) ts us r q)

pub right_first : (n : ℕ) (b : ℤ) (ts us : List (ℕ × ℤ)) → b ≢ pos 0 → RisesFrom (suc n) ts → terms_sum ts ((n, b) ∷ us) ≡ one n b ++ terms_sum ts us
right_first n b ts us h r = behind n b ts us r ∙ ap (λ x. x ++ terms_sum ts us) (sym (one-other n b h))

pub both_first : (n m : ℕ) (a b : ℤ) (ts us : List (ℕ × ℤ)) → n ≡ m → RisesFrom (suc n) ts → terms_sum ((n, a) ∷ ts) ((m, b) ∷ us) ≡ one n (a +ℤ b) ++ terms_sum ts us
both_first n m a b ts us e r =
    ap (with_term n a) (behind m b ts us (rises_lower (suc n) (suc m) ts (omega arith) r))
    ∙ same_first (nat_cmp n m) n a (m, b) (terms_sum ts us) (with_term n a (terms_sum ts us)) (ranked n m _ refl) e

-- ---- what is behind the first term

pub behind_rises : (ts us : List (ℕ × ℤ)) (n : ℕ) (a : ℤ) → ts ≡ (n, a) ∷ us → IsRising ts → IsRising us
behind_rises ts us n a e r = let q : IsRising ((n, a) ∷ us) = subst IsRising e r in rises_lower (suc n) 0 us (omega arith) q.2

first_parts : (ts us : List (ℕ × ℤ)) (n : ℕ) (a : ℤ) → ts ≡ (n, a) ∷ us → IsRising ts → IsRising ((n, a) ∷ us)
first_parts ts us n a e r = subst IsRising e r

-- a number of 64 bits at 128 bits
pub wide : (a : ℤ) → FitsSigned w64 a → to_z w128 (of_z w128 (to_z w64 (of_z w64 a))) ≡ a
wide a h = rw (to_z-of_z w64 a h) (to_z-of_z w128 a (record { sfits = omega (arith, h.sfits) }))

pub wide_sum : (a b : ℤ) → FitsSigned w64 a → FitsSigned w64 b → to_z w128 (of_z w128 (to_z w128 (of_z w128 (to_z w64 (of_z w64 a))) +ℤ to_z w128 (of_z w128 (to_z w64 (of_z w64 b))))) ≡ a +ℤ b
wide_sum a b h k = rw (wide a h, wide b k) (to_z-of_z w128 (a +ℤ b) (omega (arith, ints)))

pub only_left : (ls rs ts : List (ℕ × ℤ)) (n : ℕ) (a d : ℤ) → ls ≡ (n, a) ∷ ts → rs ≡ [] → d ≡ a → IsRising ls → terms_sum ls rs ≡ one n d ++ terms_sum ts rs
only_left ls rs ts n a d e f g r =
    let q : IsRising ((n, a) ∷ ts) = first_parts ls ts n a e r in
    rw (e, f, g) (left_first n a ts [] q.2 tt)

pub only_right : (ls rs us : List (ℕ × ℤ)) (n : ℕ) (b d : ℤ) → ls ≡ [] → rs ≡ (n, b) ∷ us → d ≡ b → IsRising rs → terms_sum ls rs ≡ one n d ++ terms_sum ls us
only_right ls rs us n b d e f g r =
    let q : IsRising ((n, b) ∷ us) = first_parts rs us n b f r in
    rw (e, f, g) (right_first n b [] us q.1 tt)

pub left_below : (ls rs ts us : List (ℕ × ℤ)) (m n : ℕ) (a b d : ℤ) → ls ≡ (m, a) ∷ ts → rs ≡ (n, b) ∷ us → Less ≡ nat_cmp m n → d ≡ a → IsRising ls → IsRising rs → terms_sum ls rs ≡ one m d ++ terms_sum ts rs
left_below ls rs ts us m n a b d e f h g r s =
    let k : m < n = ranked m n Less h in
    let q : IsRising ((m, a) ∷ ts) = first_parts ls ts m a e r in
    let p : IsRising ((n, b) ∷ us) = first_parts rs us n b f s in
    rw (e, f, g) (left_first m a ts ((n, b) ∷ us) q.2 (omega arith, p.1, p.2))

pub right_below : (ls rs ts us : List (ℕ × ℤ)) (m n : ℕ) (a b d : ℤ) → ls ≡ (m, a) ∷ ts → rs ≡ (n, b) ∷ us → Greater ≡ nat_cmp m n → d ≡ b → IsRising ls → IsRising rs → terms_sum ls rs ≡ one n d ++ terms_sum ls us
right_below ls rs ts us m n a b d e f h g r s =
    let k : n < m = ranked m n Greater h in
    let q : IsRising ((m, a) ∷ ts) = first_parts ls ts m a e r in
    let p : IsRising ((n, b) ∷ us) = first_parts rs us n b f s in
    rw (e, f, g) (right_first n b ((m, a) ∷ ts) us p.1 (omega arith, q.1, q.2))

pub both_same : (ls rs ts us : List (ℕ × ℤ)) (m n : ℕ) (a b d : ℤ) → ls ≡ (m, a) ∷ ts → rs ≡ (n, b) ∷ us → Equal ≡ nat_cmp m n → d ≡ a +ℤ b → IsRising ls → IsRising rs → terms_sum ls rs ≡ one m d ++ terms_sum ts us
both_same ls rs ts us m n a b d e f h g r s =
    let k : m ≡ n = ranked m n Equal h in
    let q : IsRising ((m, a) ∷ ts) = first_parts ls ts m a e r in
    rw (e, f, g) (both_first m n a b ts us k q.2)
