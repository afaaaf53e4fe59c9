-- The coefficients of a normal form are coprime, and the first is positive.
use Rattle.std.proofs.Common.{◌≡◌, ◌≢◌, ℕ, zero, suc, ◌*◌, ◌/◌, ◌≤◌, ◌<◌, ℤ, pos, negsuc, neg_ℤ, ◌-ℤ◌, ◌*ℤ◌, ◌<ℤ◌, int_div, int_lt, unsigned_abs, Bool, true, false, if◌then◌else◌, List, [], ◌∷◌, sym, ap, subst, refl, ◌∙◌, arith, T}
use Rattle.std.proofs.lemmas.Int.{ints, unsigned_abs-mul}
use Rattle.std.proofs.Math.IntN.{zero-*ℤ}
use Rattle.std.proofs.Math.Nat.{mul-dvd-mul_right, mul-le-mul_right}
use Rattle.std.specs.Int.{◌∣◌}
use Rattle.std.proofs.lemmas.Nat.Gcd.{mod-eq-zero_of_dvd, le_of_dvd, dvd_refl}
use Rattle.linear_atoms.specs.declared.forms.Linear.{Linear}
use Rattle.linear_atoms.specs.declared.normal.Normal.{Normal}
use Rattle.linear_atoms.specs.Forms.{RisesFrom, IsRising, is_small, are_small, is_small_form}
use Rattle.linear_atoms.specs.Atoms.{AreBelow, IsAtom}
use Rattle.linear_atoms.specs.Divisors.{divides_all, greatest_to, common_divisor}
use Rattle.linear_atoms.specs.Normal.{divided, rounded_up, at_least, normal_by, normal_of, IsNormal}
use Rattle.linear_atoms.proofs.Divisors.{Divides, divides_head, divides_tail, divides_cons, one_divides, pos_size, pos_divisor, divisor_is, IsBounded, divisor_bounds}
use Rattle.linear_atoms.proofs.Quotients.{divided_below, divided_small}
use Rattle.linear_atoms.proofs.Truths.{and_left, and_right, exact, size_of_neg, quotient_ends}

different : (b : Bool) → b ≡ false → b ≡ true → ⊥
different b e f = cc

-- ---- no greater number divides them all

above_by : (b : Bool) (n k : ℕ) (ts : List (ℕ × ℤ)) → b ≡ divides_all (suc n) ts → Divides k ts → k ≤ suc n → (k ≤ n → k ≤ greatest_to n ts) → k ≤ (if b then suc n else greatest_to n ts)
above_by true n k ts e h q m = q
above_by false n k ts e h q m =
    let d : k ≢ suc n = λ f. different (divides_all (suc n) ts) (sym e) (subst (λ x. divides_all x ts ≡ true) f h.all) in
    m (omega arith)

greatest_above : (n k : ℕ) (ts : List (ℕ × ℤ)) → Divides k ts → k ≤ n → k ≤ greatest_to n ts
greatest_above zero k ts h q = q
greatest_above (suc n) k ts h q = above_by (divides_all (suc n) ts) n k ts refl h q (λ r. greatest_above n k ts h r)

divisor_above : (k : ℕ) (t : ℕ × ℤ) (ts : List (ℕ × ℤ)) → Divides k (t ∷ ts) → k ≤ unsigned_abs t.1 → k ≤ common_divisor (t ∷ ts)
unfolding common_divisor
divisor_above k t ts h q = greatest_above (unsigned_abs t.1) k (t ∷ ts) h q

-- ---- the quotients

module _ (d : ℤ) where
  exact_at : (t : ℕ × ℤ) (ts : List (ℕ × ℤ)) → Divides (unsigned_abs d) (t ∷ ts) → int_div t.1 d *ℤ d ≡ t.1
  exact_at t ts h = exact t.1 d (mod-eq-zero_of_dvd (unsigned_abs d) (divides_head (unsigned_abs d) t ts h))

  nonzero_at : (t : ℕ × ℤ) (ts : List (ℕ × ℤ)) → Divides (unsigned_abs d) (t ∷ ts) → t.1 ≢ pos 0 → int_div t.1 d ≢ pos 0
  nonzero_at t ts h n = λ e. n (sym (exact_at t ts h) ∙ ap (λ x. x *ℤ d) e ∙ zero-*ℤ d)

  divided_rises : (m : ℕ) (ts : List (ℕ × ℤ)) → RisesFrom m ts → Divides (unsigned_abs d) ts → RisesFrom m (divided d ts)
  divided_rises m [] r h = tt
  divided_rises m (t ∷ ts) r h = (r.0, nonzero_at t ts h r.1, divided_rises (suc t.0) ts r.2 (divides_tail (unsigned_abs d) t ts h))

  multiplied : (k : ℕ) (ts : List (ℕ × ℤ)) → Divides (unsigned_abs d) ts → Divides k (divided d ts) → Divides (k * unsigned_abs d) ts
  multiplied k [] h p = record { all = refl }
  multiplied k (t ∷ ts) h p =
      let s : unsigned_abs t.1 ≡ unsigned_abs (int_div t.1 d) * unsigned_abs d = ap unsigned_abs (sym (exact_at t ts h)) ∙ unsigned_abs-mul (int_div t.1 d) d in
      let q : k ∣ unsigned_abs (int_div t.1 d) = divides_head k (t.0, int_div t.1 d) (divided d ts) p in
      divides_cons (k * unsigned_abs d) t ts
      (subst (λ x. (k * unsigned_abs d) ∣ x) (sym s) (mul-dvd-mul_right k q (unsigned_abs d)))
      (multiplied k ts (divides_tail (unsigned_abs d) t ts h) (divides_tail k (t.0, int_div t.1 d) (divided d ts) p))

at_most_one : (k g : ℕ) → 0 < g → k * g ≤ g → k ≤ 1
at_most_one zero g h p = omega arith
at_most_one (suc zero) g h p = omega arith
at_most_one (suc (suc k)) g h p = let q : 2 * g ≤ suc (suc k) * g = mul-le-mul_right g (omega arith) in absurd (omega arith)

one_is : (k : ℕ) → k ≤ 1 → 0 < k → k ∣ 1
one_is k h p = let e : k ≡ 1 = omega arith in subst (λ x. x ∣ 1) (sym e) (dvd_refl 1)

factor_positive : (k g : ℕ) → 0 < k * g → 0 < k
factor_positive zero g h = absurd (omega arith)
factor_positive (suc k) g h = omega arith

no_more : (d : ℤ) (t : ℕ × ℤ) (ts : List (ℕ × ℤ)) (k : ℕ) → IsRising (t ∷ ts) → unsigned_abs d ≡ common_divisor (t ∷ ts) → Divides (unsigned_abs d) (t ∷ ts) → Divides k (divided d (t ∷ ts)) → k ∣ 1
no_more d t ts k r e h p =
    let m : Divides (k * unsigned_abs d) (t ∷ ts) = multiplied d k (t ∷ ts) h p in
    let n : 0 < unsigned_abs t.1 = pos_size t.1 r.1 in
    let a : (k * unsigned_abs d) ∣ unsigned_abs t.1 = divides_head (k * unsigned_abs d) t ts m in
    let b : 0 < k * unsigned_abs d = pos_divisor (k * unsigned_abs d) (unsigned_abs t.1) a n in
    let c : k * unsigned_abs d ≤ common_divisor (t ∷ ts) = divisor_above (k * unsigned_abs d) t ts m (le_of_dvd n a) in
    let f : k * unsigned_abs d ≤ unsigned_abs d = subst (λ x. k * unsigned_abs d ≤ x) (sym e) c in
    let g : 0 < unsigned_abs d = subst (λ x. 0 < x) (sym e) (divisor_bounds t ts r).positive in
    one_is k (at_most_one k (unsigned_abs d) g f) (factor_positive k (unsigned_abs d) b)

coprime : (d : ℤ) (t : ℕ × ℤ) (ts : List (ℕ × ℤ)) → IsRising (t ∷ ts) → unsigned_abs d ≡ common_divisor (t ∷ ts) → Divides (unsigned_abs d) (t ∷ ts) → common_divisor (divided d (t ∷ ts)) ≡ 1
coprime d t ts r e h =
    sym (divisor_is 1 (divided d (t ∷ ts)) (divided_rises d 0 (t ∷ ts) r h)
    (record { divides = record { all = one_divides (divided d (t ∷ ts)) }; greatest = λ k p. no_more d t ts k r e h p })
    (λ f. cc))

-- ---- the first coefficient

false_lt : (b : Bool) → b ≡ false → T b → ⊥
false_lt true e t = cc
false_lt false e t = t

above_zero : (n : ℕ) → pos n ≢ pos 0 → pos 0 <ℤ pos n
above_zero zero h = absurd (h refl)
above_zero (suc n) h = omega (arith, ints)

first_up : (a : ℤ) (g : ℕ) → int_lt (pos 0) a ≡ true → int_div a (pos g) ≢ pos 0 → pos 0 <ℤ int_div a (pos g)
first_up (pos n) g h z = above_zero (n / g) z
first_up (negsuc n) g h z = cc

first_down : (a : ℤ) (g : ℕ) → int_lt (pos 0) a ≡ false → 0 < g → a ≢ pos 0 → int_div a (neg_ℤ (pos g)) ≢ pos 0 → pos 0 <ℤ int_div a (neg_ℤ (pos g))
first_down a zero h p n z = absurd (omega arith)
first_down (pos zero) (suc g) h p n z = absurd (n refl)
first_down (pos (suc a)) (suc g) h p n z = absurd (let q : pos 0 <ℤ pos (suc a) = omega (arith, ints) in false_lt (int_lt (pos 0) (pos (suc a))) h q.lt)
first_down (negsuc a) (suc g) h p n z = above_zero (suc a / suc g) z

-- what is said of the terms and the constant of a form
record IsGiven (count : ℕ) (ts : List (ℕ × ℤ)) (k : ℤ) : Type 0 where
  pub rising : IsRising ts
  pub below : AreBelow count ts
  pub small : are_small ts ≡ true
  pub constant : is_small k ≡ true

normal_atom : (count : ℕ) (d : ℤ) (t : ℕ × ℤ) (ts : List (ℕ × ℤ)) (bound k : ℤ) → IsGiven count (t ∷ ts) k → unsigned_abs d ≡ common_divisor (t ∷ ts) → Divides (unsigned_abs d) (t ∷ ts) → pos 0 <ℤ int_div t.1 d
    → unsigned_abs bound ≤ 2147483649 → IsAtom count (record { terms = divided d (t ∷ ts); bound = bound })
normal_atom count d t ts bound k i e h p b = record {
  rising = divided_rises d 0 (t ∷ ts) i.rising h;
  coprime = coprime d t ts i.rising e h;
  small = divided_small d (t ∷ ts) i.small;
  positive = p;
  below = divided_below d count (t ∷ ts) i.below;
  bounded = b;
}

positive_divisor : (n : ℕ) → 0 < n → pos 0 <ℤ pos n
positive_divisor n h = omega (arith, ints)

up_size : (k : ℤ) (g : ℕ) → is_small k ≡ true → 0 < g → unsigned_abs (rounded_up k (pos g)) ≤ 2147483649
up_size k g h p = let q = quotient_ends k (pos g) h (positive_divisor g p) in omega (arith, ints, q.0, q.1)

down_size : (k : ℤ) (g : ℕ) → is_small k ≡ true → 0 < g → unsigned_abs (pos 1 -ℤ rounded_up k (pos g)) ≤ 2147483649
down_size k g h p = let q = quotient_ends k (pos g) h (positive_divisor g p) in omega (arith, ints, q.0, q.1)

literal_normal : (count : ℕ) (b : Bool) (t : ℕ × ℤ) (ts : List (ℕ × ℤ)) (k : ℤ) → b ≡ int_lt (pos 0) t.1 → IsGiven count (t ∷ ts) k
    → IsAtom count (if b then at_least (divided (pos (common_divisor (t ∷ ts))) (t ∷ ts)) (rounded_up k (pos (common_divisor (t ∷ ts)))) true
    else at_least (divided (neg_ℤ (pos (common_divisor (t ∷ ts)))) (t ∷ ts)) (pos 1 -ℤ rounded_up k (pos (common_divisor (t ∷ ts)))) false).atom
literal_normal count true t ts k e i =
    let g : ℕ = common_divisor (t ∷ ts) in
    let m : IsBounded g (unsigned_abs t.1) (t ∷ ts) = divisor_bounds t ts i.rising in
    let h : Divides g (t ∷ ts) = record { all = m.divides } in
    normal_atom count (pos g) t ts (rounded_up k (pos g)) k i refl h (first_up t.1 g (sym e) (nonzero_at (pos g) t ts h i.rising.1)) (up_size k g i.constant m.positive)
literal_normal count false t ts k e i =
    let g : ℕ = common_divisor (t ∷ ts) in
    let m : IsBounded g (unsigned_abs t.1) (t ∷ ts) = divisor_bounds t ts i.rising in
    let h : Divides (unsigned_abs (neg_ℤ (pos g))) (t ∷ ts) = subst (λ x. Divides x (t ∷ ts)) (sym (size_of_neg g)) (record { all = m.divides }) in
    normal_atom count (neg_ℤ (pos g)) t ts (pos 1 -ℤ rounded_up k (pos g)) k i (size_of_neg g) h
    (first_down t.1 g (sym e) m.positive i.rising.1 (nonzero_at (neg_ℤ (pos g)) t ts h i.rising.1)) (down_size k g i.constant m.positive)

normal_by_terms : (count : ℕ) (ts : List (ℕ × ℤ)) (k : ℤ) → IsGiven count ts k → IsNormal count (normal_by ts (common_divisor ts) k)
normal_by_terms count [] k i = tt
normal_by_terms count (t ∷ ts) k i = literal_normal count (int_lt (pos 0) t.1) t ts k refl i

pub normal_kept : (count : ℕ) (form : Linear) (made : Normal) → made ≡ normal_of form → is_small_form form ≡ true → IsRising form.terms → AreBelow count form.terms → IsNormal count made
normal_kept count form made e s r b = subst (IsNormal count) (sym e)
    (normal_by_terms count form.terms form.constant (record { rising = r; below = b; small = and_left (are_small form.terms) (is_small form.constant) s; constant = and_right (are_small form.terms) (is_small form.constant) s }))
