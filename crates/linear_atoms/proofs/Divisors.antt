-- The greatest common divisor of coefficients.
use Rattle.std.proofs.Common.{◌≡◌, ◌≢◌, ℕ, zero, suc, ◌%◌, ◌≤◌, ◌<◌, nat_eq, ℤ, pos, negsuc, unsigned_abs, Bool, true, false, ◌&&◌, if◌then◌else◌, List, [], ◌∷◌, sym, ap, subst, refl, ◌∙◌, arith}
use Rattle.std.specs.Int.{IsGcd, ◌∣◌}
use Rattle.std.proofs.lemmas.Bool.Decides.{nat_tests}
use Rattle.std.proofs.lemmas.Nat.Gcd.{mod-eq-zero_of_dvd, dvd_of_mod-eq-zero, le_of_dvd, dvd_trans, dvd-zero, dvd_refl}
use Rattle.std.proofs.Math.Nat.{mod-zero}
use Rattle.linear_atoms.specs.Forms.{IsRising, is_small, are_small}
use Rattle.linear_atoms.specs.Divisors.{divides_all, greatest_to, common_divisor}

-- the number divides each coefficient
pub record Divides (d : ℕ) (ts : List (ℕ × ℤ)) : Type 0 where
  pub all : divides_all d ts ≡ true

and_left : (a b : Bool) → (a && b) ≡ true → a ≡ true
and_left true b e = refl
and_left false b e = e

and_right : (a b : Bool) → (a && b) ≡ true → b ≡ true
and_right true b e = e
and_right false b e = cc

and_both : (a b : Bool) → a ≡ true → b ≡ true → (a && b) ≡ true
and_both a b p q = ap (λ x. x && b) p ∙ q

pub divides_head : (d : ℕ) (t : ℕ × ℤ) (ts : List (ℕ × ℤ)) → Divides d (t ∷ ts) → d ∣ unsigned_abs t.1
divides_head d t ts h =
    let e : nat_eq (unsigned_abs t.1 % d) 0 ≡ true = and_left _ _ h.all in
    dvd_of_mod-eq-zero d (grind (arith, nat_tests))

pub divides_tail : (d : ℕ) (t : ℕ × ℤ) (ts : List (ℕ × ℤ)) → Divides d (t ∷ ts) → Divides d ts
divides_tail d t ts h = record { all = and_right (nat_eq (unsigned_abs t.1 % d) 0) (divides_all d ts) h.all }

pub divides_cons : (d : ℕ) (t : ℕ × ℤ) (ts : List (ℕ × ℤ)) → d ∣ unsigned_abs t.1 → Divides d ts → Divides d (t ∷ ts)
divides_cons d t ts h k =
    let z : unsigned_abs t.1 % d ≡ 0 = mod-eq-zero_of_dvd d h in
    record { all = and_both (nat_eq (unsigned_abs t.1 % d) 0) (divides_all d ts) (grind (arith, nat_tests)) k.all }

pub record IsGreatest (g : ℕ) (ts : List (ℕ × ℤ)) : Type 0 where
  pub divides : Divides g ts
  pub greatest : (d : ℕ) → Divides d ts → d ∣ g

differs_from : (n g : ℕ) (ts : List (ℕ × ℤ)) → false ≡ divides_all (suc n) ts → IsGreatest g ts → g ≢ suc n
differs_from n g ts e h q =
    let k : divides_all (suc n) ts ≡ true = subst (λ x. divides_all x ts ≡ true) q h.divides.all in
    cc

below : (n g : ℕ) (ts : List (ℕ × ℤ)) → false ≡ divides_all (suc n) ts → IsGreatest g ts → g ≤ suc n → g ≤ n
below n g ts e h q = let d : g ≢ suc n = differs_from n g ts e h in omega arith

greatest_by : (b : Bool) (n g : ℕ) (ts : List (ℕ × ℤ)) → b ≡ divides_all (suc n) ts → IsGreatest g ts → 0 < g → g ≤ suc n → (g ≤ n → greatest_to n ts ≡ g) → (if b then suc n else greatest_to n ts) ≡ g
greatest_by true n g ts e h p q k = let r : suc n ≤ g = le_of_dvd p (h.greatest (suc n) (record { all = sym e })) in omega arith
greatest_by false n g ts e h p q k = k (below n g ts e h q)

pub greatest_is : (n g : ℕ) (ts : List (ℕ × ℤ)) → IsGreatest g ts → 0 < g → g ≤ n → greatest_to n ts ≡ g
greatest_is zero g ts h p q = absurd (omega arith)
greatest_is (suc n) g ts h p q = greatest_by (divides_all (suc n) ts) n g ts refl h p q (λ r. greatest_is n g ts h p r)

pub pos_size : (a : ℤ) → a ≢ pos 0 → 0 < unsigned_abs a
pos_size (pos zero) h = absurd (h refl)
pos_size (pos (suc n)) h = omega arith
pos_size (negsuc n) h = omega arith

pub pos_divisor : (g n : ℕ) → g ∣ n → 0 < n → 0 < g
pos_divisor zero n h p = let z : n % 0 ≡ 0 = mod-eq-zero_of_dvd 0 h in absurd (omega (arith, mod-zero n))
pos_divisor (suc g) n h p = omega arith

pub divisor_is : (g : ℕ) (ts : List (ℕ × ℤ)) → IsRising ts → IsGreatest g ts → (ts ≡ [] → g ≡ 0) → g ≡ common_divisor ts
unfolding common_divisor
divisor_is g [] r h z = z refl
divisor_is g (t ∷ ts) r h z =
    let p : 0 < unsigned_abs t.1 = pos_size t.1 r.1 in
    let q : g ∣ unsigned_abs t.1 = divides_head g t ts h.divides in
    sym (greatest_is (unsigned_abs t.1) g (t ∷ ts) h (pos_divisor g (unsigned_abs t.1) q p) (le_of_dvd p q))

-- ---- reading coefficient by coefficient

-- so far this divisor, and these terms left
pub record Dividing (divisor : ℕ) (rest whole : List (ℕ × ℤ)) : Type 0 where
  pub onto : (d : ℕ) → d ∣ divisor → Divides d rest → Divides d whole
  pub back : (d : ℕ) → Divides d whole → (d ∣ divisor) × Divides d rest
  pub none : whole ≡ [] → (divisor ≡ 0) × (rest ≡ [])

no_cons : {X : Type 0} (n : ℕ) (a : ℤ) (ts : List (ℕ × ℤ)) → (n, a) ∷ ts ≡ [] → X
no_cons n a ts e = cc

pub dividing_none : (ts : List (ℕ × ℤ)) → Dividing 0 ts ts
dividing_none ts = record { onto = λ d h k. k; back = λ d k. (dvd-zero d, k); none = λ e. (refl, e) }

pub dividing_more : (g g' n : ℕ) (a : ℤ) (rest behind whole : List (ℕ × ℤ)) → Dividing g rest whole → rest ≡ (n, a) ∷ behind → IsGcd g (unsigned_abs a) g' → Dividing g' behind whole
dividing_more g g' n a rest behind whole i e gcd = record {
  onto = λ d h k. i.onto d (dvd_trans d h gcd.0) (subst (Divides d) (sym e) (divides_cons d (n, a) behind (dvd_trans d h gcd.1) k));
  back = λ d k.
      let p : (d ∣ g) × Divides d rest = i.back d k in
      let q : Divides d ((n, a) ∷ behind) = subst (Divides d) e p.1 in
      (gcd.2 d p.0 (divides_head d (n, a) behind q), divides_tail d (n, a) behind q);
  none = λ w. no_cons n a behind (sym e ∙ (i.none w).1);
}

pub dividing_all : (g : ℕ) (rest whole : List (ℕ × ℤ)) → Dividing g rest whole → rest ≡ [] → IsRising whole → g ≡ common_divisor whole
dividing_all g rest whole i e r =
    let nil : (d : ℕ) → Divides d rest = λ d. subst (Divides d) (sym e) (record { all = refl }) in
    divisor_is g whole r (record { divides = i.onto g (dvd_refl g) (nil g); greatest = λ d k. (i.back d k).0 }) (λ e. (i.none e).0)

-- ---- its bounds

pub one_divides : (ts : List (ℕ × ℤ)) → divides_all 1 ts ≡ true
one_divides [] = refl
one_divides (t ∷ ts) = and_both _ _ (let z : unsigned_abs t.1 % 1 ≡ 0 = omega arith in grind (arith, nat_tests)) (one_divides ts)

pub record IsBounded (g n : ℕ) (ts : List (ℕ × ℤ)) : Type 0 where
  pub positive : 0 < g
  pub below : g ≤ n
  pub divides : divides_all g ts ≡ true

bounded_by : (b : Bool) (n : ℕ) (ts : List (ℕ × ℤ)) → b ≡ divides_all (suc n) ts → (0 < n → IsBounded (greatest_to n ts) n ts) → IsBounded (if b then suc n else greatest_to n ts) (suc n) ts
bounded_by true n ts e k = record { positive = omega arith; below = omega arith; divides = sym e }
bounded_by false zero ts e k = let z : divides_all 1 ts ≡ true = one_divides ts in cc
bounded_by false (suc n) ts e k = let p : IsBounded (greatest_to (suc n) ts) (suc n) ts = k (omega arith) in record { positive = p.positive; below = (let q : greatest_to (suc n) ts ≤ suc n = p.below in omega arith); divides = p.divides }

greatest_bounds : (n : ℕ) (ts : List (ℕ × ℤ)) → 0 < n → IsBounded (greatest_to n ts) n ts
greatest_bounds zero ts h = absurd (omega arith)
greatest_bounds (suc n) ts h = bounded_by (divides_all (suc n) ts) n ts refl (greatest_bounds n ts)

pub divisor_bounds : (t : ℕ × ℤ) (ts : List (ℕ × ℤ)) → IsRising (t ∷ ts) → IsBounded (common_divisor (t ∷ ts)) (unsigned_abs t.1) (t ∷ ts)
unfolding common_divisor
divisor_bounds t ts r = greatest_bounds (unsigned_abs t.1) (t ∷ ts) (pos_size t.1 r.1)

pub divisor_positive : (whole rest : List (ℕ × ℤ)) (n : ℕ) (a : ℤ) → whole ≡ (n, a) ∷ rest → IsRising whole → 0 < common_divisor whole
divisor_positive whole rest n a e r =
    let q : IsRising ((n, a) ∷ rest) = subst IsRising e r in
    subst (λ x. 0 < common_divisor x) (sym e) (divisor_bounds (n, a) rest q).positive

is_small_size : (a : ℤ) → is_small a ≡ true → unsigned_abs a ≤ 2147483648
is_small_size a h = grind (arith, nat_tests)

none_divisor : common_divisor [] ≡ 0
unfolding common_divisor
none_divisor = refl

pub divisor_small : (ts : List (ℕ × ℤ)) → IsRising ts → are_small ts ≡ true → common_divisor ts ≤ 2147483648
divisor_small [] r h = rw none_divisor (omega arith)
divisor_small (t ∷ ts) r h =
    let p : common_divisor (t ∷ ts) ≤ unsigned_abs t.1 = (divisor_bounds t ts r).below in
    let q : unsigned_abs t.1 ≤ 2147483648 = is_small_size t.1 (and_left _ _ h) in
    omega arith
